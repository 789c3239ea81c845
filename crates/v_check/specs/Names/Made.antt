-- A means of proof: what is chosen by a select, and what a name is.
use Rattle.std.specs.Prelude.{◌≡◌, ℕ, List, Option, None, Some, false, nat_le, if◌then◌else◌}
use Rattle.four_value.specs.declared.Digit.{Digit}
use Rattle.four_value.specs.Vector.{number, resize}
use Rattle.gpi.specs.declared.selects.Range.{Range}
use Rattle.gpi.specs.declared.selects.Words.{Words}
use Rattle.gpi.specs.declared.terms.Term.{Term}
use Rattle.gpi.specs.declared.terms.Term.TheVariants.{Const}
use Rattle.gpi.specs.Selects.{selected, word_at}
use Rattle.gpi.specs.Terms.{value, word_value, IsWidth, AreWords}
use Rattle.gpi.specs.Terms as term
use Rattle.v_syntax.specs.ExpressionTrees.{SelectsTree}
use Rattle.v_flat.specs.declared.scope.rule.ElabRule.TheVariants as rule
use Rattle.v_flat.specs.declared.scope.found.Found.{Found}
use Rattle.v_flat.specs.declared.scope.found.Found.TheVariants.{Sound}
use Rattle.v_flat.specs.Scope.Found.{each, both, followed, and_then, broken, needs, Holds}
use Rattle.v_flat.specs.declared.scope.meaning.Bounds.{Bounds}
use Rattle.v_flat.specs.declared.scope.meaning.DataObject.{DataObject}
use Rattle.v_flat.specs.declared.scope.meaning.Meaning.{Meaning}
use Rattle.v_flat.specs.declared.scope.meaning.Meaning.TheVariants.{Object}
use Rattle.v_flat.specs.Scope.Scope.{Scope, span, width_of}
use Rattle.v_flat.specs.Scope.Limits.{counted_width, most_digits}
use Rattle.v_check.specs.declared.contextual.contextual.Contextual.TheVariants.{Settled}
use Rattle.v_check.specs.Contextual.Contexts.{value_in, IsSound, IsLowered}
use Rattle.v_flat.specs.Objects.{Vector, Memory, nature_of, range_of}
use Rattle.v_flat.specs.Expressions.{whole_width, whole_value, one_width, one_value, part_of_word, named_width, named_value, number_or}
use Rattle.v_flat.specs.Checks.{by_nature, of_vector, of_memory, narrow, go_with}
use Rattle.v_check.specs.declared.constants.checked.Checked.{Checked}
use Rattle.v_check.specs.Constants.Checked.{IsNameOf, SelectsNamesOf}
use Rattle.v_check.specs.Constants.Made.{Makes, EachIs}
use Rattle.v_check.specs.declared.names.selects.CheckedSelect.{CheckedSelect}
use Rattle.v_check.specs.declared.names.selects.CheckedSelect.TheVariants as code
use Rattle.v_check.specs.declared.names.selects.CheckedSelects.{CheckedSelects}
use Rattle.v_check.specs.declared.names.selects.CheckedSelects.TheVariants as code_selects
use Rattle.v_check.specs.declared.names.choice.Choice.{Choice}
use Rattle.v_check.specs.Names.Selects.{AreSelects, place_of, twice_at}

-- ---- how what a select chooses is found

abbrev pub bit_choice : Term → Choice
bit_choice t = record { index = t; width = 1 }

abbrev pub pair_choice : Term × ℕ → Choice
pair_choice x = record { index = x.0; width = x.1 }

-- the vector with the lesser number
abbrev pub lesser_by : Option ℕ → Option ℕ → List Digit → List Digit → List Digit
lesser_by (Some a) (Some b) ds es = if nat_le a b then ds else es
lesser_by (Some a) None ds es = es
lesser_by None b ds es = ds

abbrev pub lesser_of : List Digit → List Digit → List Digit
lesser_of ds es = lesser_by (number ds) (number es) ds es

abbrev pub range_of_numbers : ℕ → ℕ → Bounds → ℕ → ℕ → List Digit → Found Choice
range_of_numbers q p b i j ds = needs (go_with b i j) rule.BadRange q (needs (nat_le (counted_width (span i j)) most_digits) rule.TooWide p
    (Sound (record { index = Const ds; width = counted_width (span i j) })))

abbrev pub range_choice : ℕ → ℕ → Bounds → List Digit → List Digit → Found Choice
range_choice q p b ds es = range_of_numbers q p b (number_or (number ds)) (number_or (number es)) (lesser_of ds es)

-- p is the place of the name
abbrev pub choice_from : ℕ → Bounds → CheckedSelect → Found Choice
choice_from p b (code.Bit q x) = each bit_choice x
choice_from p b (code.Part q x y) = and_then (both x y) (λ z. range_choice q p b z.0 z.1)
choice_from p b (code.IndexedPart q x w) = each pair_choice (followed x (and_then w (narrow p)))

-- ---- what a name is

-- a vector with this range, whose digits are those of the term
pub record IsVector (x : Option Meaning) (t : Term) (b : Bounds) : Type 0 where
  pub nature : nature_of x ≡ Vector b
  pub proper : IsWidth (width_of b)
  pub whole_width : whole_width x ≡ width_of b
  pub one_width : (n : ℕ) → one_width x n ≡ n
  pub whole : (m : ℕ → List Digit) → value t m ≡ whole_value x m
  pub one : (base : Option ℕ) (n : ℕ) (m : ℕ → List Digit) → selected (value t m) (range_of b) base n ≡ one_value x base n m
  pub sound : (ws : List ℕ) → IsNameOf x ws → term.IsSound t ws

-- a memory of words with this range
pub record IsMemory (x : Option Meaning) (words : Words) (b : Bounds) : Type 0 where
  pub nature : nature_of x ≡ Memory b
  pub proper : IsWidth (width_of b)
  pub one_width : (n : ℕ) → one_width x n ≡ width_of b
  pub one : (base : Option ℕ) (n : ℕ) (m : ℕ → List Digit) → word_value (word_at words base) (width_of b) m ≡ one_value x base n m
  pub part : (word base : Option ℕ) (n : ℕ) (m : ℕ → List Digit) → selected (word_value (word_at words word) (width_of b) m) (range_of b) base n ≡ part_of_word x word base n m
  pub sound : (ws : List ℕ) → IsNameOf x ws → AreWords words (width_of b) ws

-- a name with selects, whose meaning is x
pub record StandsForName (s : Scope) (sel : SelectsTree) (x : Option Meaning) (c : Checked) : Type 0 where
  pub proper : IsWidth c.width
  pub own : named_width s sel x ≡ c.width
  pub means : (w : ℕ) (m : ℕ → List Digit) → value_in c.form w m ≡ resize (named_value s sel x m) w
  pub sound : (ws : List ℕ) → IsNameOf x ws → SelectsNamesOf s sel ws → IsSound c.form ws

pub record IsName (s : Scope) (p : ℕ) (sel : SelectsTree) (x : Option Meaning) (f : Found Checked) : Type 0 where
  pub finds : each (λ (c : Checked). c.width) f ≡ each counted_width (by_nature p (nature_of x) (λ b. of_vector false s p b sel) (λ b. of_memory false s p b sel))
  pub holds : Holds (λ (c : Checked). StandsForName s sel x c) f

-- ---- what is made of a choice

abbrev pub MakesPart : Term → Range → Choice → Checked → Type 0
MakesPart t r x c = Makes c x.width (λ w m. resize (selected (value t m) r (number (value x.index m)) x.width) w)
    (λ ws. term.IsSound t ws × term.IsSound x.index ws × IsWidth x.width)

abbrev pub AreParts : Term → Range → Found Choice → Found Checked → Type 0
AreParts t r x f = EachIs (λ (y : Choice) (c : Checked). MakesPart t r y c) x f

abbrev pub MakesWord : Words → ℕ → Term → Checked → Type 0
MakesWord words n i c = Makes c n (λ w m. resize (word_value (word_at words (number (value i m))) n m) w) (λ ws. term.IsSound i ws × AreWords words n ws)

abbrev pub AreWordsOf : Words → ℕ → Found Term → Found Checked → Type 0
AreWordsOf words n x f = EachIs (λ (i : Term) (c : Checked). MakesWord words n i c) x f

abbrev pub MakesWordPart : Words → ℕ → Bounds → Term × Choice → Checked → Type 0
MakesWordPart words n b x c =
    Makes c x.1.width (λ w m. resize (selected (word_value (word_at words (number (value x.0 m))) n m) (range_of b) (number (value x.1.index m)) x.1.width) w)
    (λ ws. term.IsSound x.0 ws × AreWords words n ws × term.IsSound x.1.index ws × IsWidth x.1.width)

abbrev pub AreWordParts : Words → ℕ → Bounds → Found (Term × Choice) → Found Checked → Type 0
AreWordParts words n b x f = EachIs (λ (y : Term × Choice) (c : Checked). MakesWordPart words n b y c) x f

-- ---- what is made of a vector and of a memory with selects; p is the place of the name, and n the width

abbrev pub VectorMade : ℕ → Term → ℕ → Bounds → CheckedSelects → Found Checked → Type 0
VectorMade p t n b code_selects.Whole f = f ≡ Sound (record { width = n; form = Settled t })
VectorMade p t n b (code_selects.One x) f = AreParts t (range_of b) (choice_from p b x) f
VectorMade p t n b (code_selects.OfWord i x) f = f ≡ twice_at i (place_of x)

abbrev pub WordMade : Words → ℕ → CheckedSelect → Found Checked → Type 0
WordMade words n (code.Bit q i) f = AreWordsOf words n i f
WordMade words n (code.Part q x y) f = f ≡ broken rule.BadRange q
WordMade words n (code.IndexedPart q x w) f = f ≡ broken rule.BadRange q

abbrev pub MemoryMade : ℕ → Words → ℕ → Bounds → CheckedSelects → Found Checked → Type 0
MemoryMade p words n b code_selects.Whole f = f ≡ broken rule.BadRange p
MemoryMade p words n b (code_selects.One x) f = WordMade words n x f
MemoryMade p words n b (code_selects.OfWord i x) f = AreWordParts words n b (followed i (choice_from p b x)) f

abbrev pub NamesObject : ℕ → DataObject → CheckedSelects → Found Checked → Type 0
NamesObject p o y f = (s : Scope) (sel : SelectsTree) → AreSelects false s sel y → IsName s p sel (Some (Object o)) f

-- each term has the value that it was made of, in its own width
abbrev pub AreAlone : Found Checked → Found Term → Type 0
AreAlone x f = EachIs (λ (c : Checked) (t : Term). IsLowered c.form c.width t) x f
