-- What is found in a name with selects.
use Rattle.std.proofs.Common.{◌≡◌, ℕ, List, Option, Some, None, Bool, false, refl, sym, ap, ◌∙◌, subst, arith}
use Rattle.four_value.specs.declared.Digit.{Digit}
use Rattle.four_value.specs.Vector.{number, resize}
use Rattle.gpi.specs.declared.selects.Words.{Words}
use Rattle.gpi.specs.declared.terms.Term.{Term}
use Rattle.gpi.specs.declared.terms.Term.TheVariants.{Const, Signal}
use Rattle.gpi.specs.Selects.{selected, word_at}
use Rattle.gpi.specs.Terms.{value, word_value, IsWidth}
use Rattle.v_syntax.specs.ExpressionTrees.{Tree, Named, SelectsTree, Whole, One, OfWord, SelectTree, Bit, Part, IndexedPart}
use Rattle.v_flat.specs.declared.scope.rule.ElabRule.TheVariants as rule
use Rattle.v_flat.specs.declared.scope.found.Found.{Found}
use Rattle.v_flat.specs.declared.scope.found.Found.TheVariants.{Sound}
use Rattle.v_flat.specs.Scope.Found.{each, followed, and_then, broken, Holds}
use Rattle.v_flat.specs.declared.scope.meaning.Bounds.{Bounds}
use Rattle.v_flat.specs.declared.scope.meaning.DataObject.{DataObject}
use Rattle.v_flat.specs.declared.scope.meaning.Meaning.{Meaning}
use Rattle.v_flat.specs.declared.scope.meaning.Meaning.TheVariants.{Constant, Object}
use Rattle.v_flat.specs.Scope.Scope.{Scope, find, width_of}
use Rattle.v_flat.proofs.ScopeLemmas.Gathered.{each_each, each_same, each_then, holds_so}
use Rattle.v_flat.specs.Scope.Limits.{counted_width}
use Rattle.v_check.specs.declared.contextual.contextual.Contextual.TheVariants.{Settled}
use Rattle.v_flat.specs.Objects.{Nature, nature_of_object, range_of, words_of}
use Rattle.v_flat.specs.Expressions.{own_value, select_base, select_width, object_width, object_part}
use Rattle.v_flat.specs.Checks.{checked, index, part, by_nature, of_vector, of_memory, select_at}
use Rattle.v_flat.proofs.Holds.{holds_then, holds_any, holds_followed}
use Rattle.v_check.specs.declared.constants.checked.Checked.{Checked}
use Rattle.v_check.specs.Constants.Checked.{StandsFor, IsChecked, IsObjectOf}
use Rattle.v_check.proofs.ConstantsLemmas.Combined.{made_width, made_holds}
use Rattle.v_check.specs.declared.names.choice.Choice.{Choice}
use Rattle.v_check.specs.declared.names.selects.CheckedSelect.{CheckedSelect}
use Rattle.v_check.specs.declared.names.selects.CheckedSelect.TheVariants as code
use Rattle.v_check.specs.declared.names.selects.CheckedSelects.{CheckedSelects}
use Rattle.v_check.specs.declared.names.selects.CheckedSelects.TheVariants as code_selects
use Rattle.v_check.specs.Names.Selects.{StandsAlone, IsIndex, IsSelect, AreSelects, Chooses, place_of}
use Rattle.v_check.specs.Names.Made.{IsVector, IsMemory, StandsForName, IsName, MakesPart, MakesWord, MakesWordPart, AreParts, AreWordsOf, AreWordParts, VectorMade, WordMade, MemoryMade, choice_from}
use Rattle.v_check.proofs.NamesLemmas.Founds.{second_of}
use Rattle.v_check.proofs.NamesLemmas.Choices.{chosen}

-- a name with selects, by what it is
abbrev asked : Scope → ℕ → SelectsTree → Nature → Found ℕ
asked s p sel n = by_nature p n (λ b. of_vector false s p b sel) (λ b. of_memory false s p b sel)

pub place_is : (fixed : Bool) (s : Scope) (sel : SelectTree) (x : CheckedSelect) → IsSelect fixed s sel x → select_at sel ≡ place_of x
place_is fixed s (Bit q i) (code.Bit o x) h = h.0
place_is fixed s (Part q l r) (code.Part o x y) h = h.0
place_is fixed s (IndexedPart q c n) (code.IndexedPart o x w) h = h.0
place_is fixed s (Bit q i) (code.Part o x y) h = absurd h
place_is fixed s (Bit q i) (code.IndexedPart o x w) h = absurd h
place_is fixed s (Part q l r) (code.Bit o x) h = absurd h
place_is fixed s (Part q l r) (code.IndexedPart o x w) h = absurd h
place_is fixed s (IndexedPart q c n) (code.Bit o x) h = absurd h
place_is fixed s (IndexedPart q c n) (code.Part o x y) h = absurd h

-- ---- vectors

whole_named : (s : Scope) (p : ℕ) (x : Option Meaning) (t : Term) (b : Bounds) → IsVector x t b → IsName s p Whole x (Sound (record { width = width_of b; form = Settled t }))
whole_named s p x t b v = record {
  finds = ap (λ (n : ℕ). (let r : Found ℕ = Sound n in r)) (let h = v.proper.1 in omega (arith, h)) ∙ ap (λ (n : Nature). each counted_width (asked s p Whole n)) (sym v.nature);
  holds = record {
    proper = v.proper;
    own = v.whole_width;
    means = λ w m. ap (λ (ds : List Digit). resize ds w) (v.whole m);
    sound = λ ws h k. v.sound ws h;
  };
}

part_stands : (s : Scope) (sel : SelectTree) (x : Option Meaning) (t : Term) (b : Bounds) (y : Choice) (c : Checked) → IsVector x t b → MakesPart t (range_of b) y c → Chooses s sel y
    → StandsForName s (One sel) x c
part_stands s sel x t b y c v made k = record {
  proper = subst (λ (n : ℕ). IsWidth n) (sym made.width_is) k.proper;
  own = v.one_width (select_width s sel) ∙ k.own ∙ sym made.width_is;
  means = λ w m. made.value_is w m
      ∙ ap (λ (base : Option ℕ). resize (selected (value t m) (range_of b) base y.width) w) (k.base m)
      ∙ ap (λ (n : ℕ). resize (selected (value t m) (range_of b) (select_base s sel m) n) w) (sym k.own)
      ∙ ap (λ (ds : List Digit). resize ds w) (v.one (select_base s sel m) (select_width s sel) m);
  sound = λ ws h q. made.sound ws (v.sound ws h, k.sound ws q, k.proper);
}

part_named : (s : Scope) (p : ℕ) (sel : SelectTree) (x : Option Meaning) (t : Term) (b : Bounds) (y : CheckedSelect) (f : Found Checked) → IsVector x t b → IsSelect false s sel y
    → AreParts t (range_of b) (choice_from p b y) f → IsName s p (One sel) x f
part_named s p sel x t b y f v h made = let k = chosen false s p b sel y h in record {
  finds = made_width (λ (z : Choice) (c : Checked). MakesPart t (range_of b) z c) (λ (c : Checked). c.width) (λ (z : Choice). z.width) (choice_from p b y) f made (λ z c q. q.width_is)
      ∙ k.finds ∙ ap (λ (n : Nature). each counted_width (asked s p (One sel) n)) (sym v.nature);
  holds = made_holds (λ (z : Choice) (c : Checked). MakesPart t (range_of b) z c) (λ (z : Choice). Chooses s sel z) (λ (c : Checked). StandsForName s (One sel) x c)
      (choice_from p b y) f made k.holds (λ z c q st. part_stands s sel x t b z c v q st);
}

never : {A : Type 0} (R : Checked → Type 0) (p : ℕ) (x : Found A) → Holds R (and_then x (λ a. broken rule.BadRange p))
never {A} R p x = holds_then (λ (a : A). Unit {0}) R x (λ a. broken rule.BadRange p) (holds_any x) (λ a k. tt)

twice_named : (s : Scope) (p q : ℕ) (i : Tree) (sel : SelectTree) (x : Option Meaning) (t : Term) (b : Bounds) (y : Found Term) (z : CheckedSelect) → IsVector x t b → IsIndex false s i y → IsSelect false s sel z
    → IsName s p (OfWord q i sel) x (and_then (each (λ (t : Term). tt) y) (λ (u : Unit {0}). broken rule.BadRange (place_of z)))
twice_named s p q i sel x t b y z v h k = record {
  finds = each_then (λ (c : Checked). c.width) (λ (u : Unit {0}). broken rule.BadRange (place_of z)) (each (λ (t : Term). tt) y)
      ∙ ap (λ (w : Found (Unit {0})). and_then w (λ (u : Unit {0}). (let r : Found ℕ = broken rule.BadRange (place_of z) in r))) h.finds
      ∙ ap (λ (n : ℕ). and_then (index false s i (checked s i)) (λ (u : Unit {0}). (let r : Found ℕ = broken rule.BadRange n in r))) (sym (place_is false s sel z k))
      ∙ sym (each_then counted_width (λ (u : Unit {0}). (let r : Found ℕ = broken rule.BadRange (select_at sel) in r)) (index false s i (checked s i)))
      ∙ ap (λ (n : Nature). each counted_width (asked s p (OfWord q i sel) n)) (sym v.nature);
  holds = never (λ (c : Checked). StandsForName s (OfWord q i sel) x c) (place_of z) (each (λ (t : Term). tt) y);
}

pub vector_named : (s : Scope) (p : ℕ) (sel : SelectsTree) (x : Option Meaning) (t : Term) (n : ℕ) (b : Bounds) (y : CheckedSelects) (f : Found Checked) → n ≡ width_of b → IsVector x t b
    → AreSelects false s sel y → VectorMade p t n b y f → IsName s p sel x f
vector_named s p Whole x t n b code_selects.Whole f e v h made =
    subst (λ (g : Found Checked). IsName s p Whole x g) (sym (made ∙ ap (λ (k : ℕ). (let r : Found Checked = Sound (record { width = k; form = Settled t }) in r)) e)) (whole_named s p x t b v)
vector_named s p (One sel) x t n b (code_selects.One y) f e v h made = part_named s p sel x t b y f v h made
vector_named s p (OfWord q i sel) x t n b (code_selects.OfWord y z) f e v h made =
    subst (λ (g : Found Checked). IsName s p (OfWord q i sel) x g) (sym made) (twice_named s p q i sel x t b y z v h.0 h.1)
vector_named s p Whole x t n b (code_selects.One y) f e v h made = absurd h
vector_named s p Whole x t n b (code_selects.OfWord y z) f e v h made = absurd h
vector_named s p (One sel) x t n b code_selects.Whole f e v h made = absurd h
vector_named s p (One sel) x t n b (code_selects.OfWord y z) f e v h made = absurd h
vector_named s p (OfWord q i sel) x t n b code_selects.Whole f e v h made = absurd h
vector_named s p (OfWord q i sel) x t n b (code_selects.One y) f e v h made = absurd h

-- ---- memories

word_stands : (s : Scope) (q : ℕ) (i : Tree) (x : Option Meaning) (words : Words) (b : Bounds) (t : Term) (c : Checked) → IsMemory x words b → MakesWord words (width_of b) t c → StandsAlone s i t
    → StandsForName s (One (Bit q i)) x c
word_stands s q i x words b t c v made k = record {
  proper = subst (λ (n : ℕ). IsWidth n) (sym made.width_is) v.proper;
  own = v.one_width 1 ∙ sym made.width_is;
  means = λ w m. made.value_is w m
      ∙ ap (λ (ds : List Digit). resize (word_value (word_at words (number ds)) (width_of b) m) w) (k.means m)
      ∙ ap (λ (ds : List Digit). resize ds w) (v.one (number (own_value s i m)) 1 m);
  sound = λ ws h names. made.sound ws (k.sound ws names, v.sound ws h);
}

word_named : (s : Scope) (p q : ℕ) (i : Tree) (x : Option Meaning) (words : Words) (b : Bounds) (y : Found Term) (f : Found Checked) → IsMemory x words b → IsIndex false s i y
    → AreWordsOf words (width_of b) y f → IsName s p (One (Bit q i)) x f
word_named s p q i x words b y f v h made = record {
  finds = made_width (λ (t : Term) (c : Checked). MakesWord words (width_of b) t c) (λ (c : Checked). c.width) (λ (t : Term). width_of b) y f made (λ t c k. k.width_is)
      ∙ sym (each_each (λ (u : Unit {0}). width_of b) (λ (t : Term). tt) y)
      ∙ ap (λ (w : Found (Unit {0})). each (λ (u : Unit {0}). width_of b) w) h.finds
      ∙ each_same (λ (u : Unit {0}). width_of b) (λ (u : Unit {0}). counted_width (width_of b)) (index false s i (checked s i)) (λ u. let k = v.proper.1 in omega (arith, k))
      ∙ sym (each_each counted_width (λ (u : Unit {0}). width_of b) (index false s i (checked s i)))
      ∙ ap (λ (n : Nature). each counted_width (asked s p (One (Bit q i)) n)) (sym v.nature);
  holds = made_holds (λ (t : Term) (c : Checked). MakesWord words (width_of b) t c) (λ (t : Term). StandsAlone s i t) (λ (c : Checked). StandsForName s (One (Bit q i)) x c) y f made h.holds
      (λ t c k st. word_stands s q i x words b t c v k st);
}

-- a rule is broken whatever is found inside
broken_named : (s : Scope) (p q o : ℕ) (sel : SelectsTree) (x : Option Meaning) (words : Words) (b : Bounds) (f : Found Checked) → IsMemory x words b
    → of_memory false s p b sel ≡ broken rule.BadRange q → q ≡ o → f ≡ broken rule.BadRange o → IsName s p sel x f
broken_named s p q o sel x words b f v e h made = subst (λ (g : Found Checked). IsName s p sel x g) (sym made) (record {
  finds = ap (λ (n : ℕ). (let r : Found ℕ = broken rule.BadRange n in r)) (sym h) ∙ ap (λ (y : Found ℕ). each counted_width y) (sym e)
      ∙ ap (λ (n : Nature). each counted_width (asked s p sel n)) (sym v.nature);
  holds = tt;
})

one_named : (s : Scope) (p : ℕ) (sel : SelectTree) (x : Option Meaning) (words : Words) (b : Bounds) (y : CheckedSelect) (f : Found Checked) → IsMemory x words b → IsSelect false s sel y
    → WordMade words (width_of b) y f → IsName s p (One sel) x f
one_named s p (Bit q i) x words b (code.Bit o y) f v h made = word_named s p q i x words b y f v h.1 made
one_named s p (Part q l r) x words b (code.Part o y z) f v h made = broken_named s p q o (One (Part q l r)) x words b f v refl h.0 made
one_named s p (IndexedPart q c n) x words b (code.IndexedPart o y w) f v h made = broken_named s p q o (One (IndexedPart q c n)) x words b f v refl h.0 made
one_named s p (Bit q i) x words b (code.Part o y z) f v h made = absurd h
one_named s p (Bit q i) x words b (code.IndexedPart o y w) f v h made = absurd h
one_named s p (Part q l r) x words b (code.Bit o y) f v h made = absurd h
one_named s p (Part q l r) x words b (code.IndexedPart o y w) f v h made = absurd h
one_named s p (IndexedPart q c n) x words b (code.Bit o y) f v h made = absurd h
one_named s p (IndexedPart q c n) x words b (code.Part o y z) f v h made = absurd h

word_part_stands : (s : Scope) (q : ℕ) (i : Tree) (sel : SelectTree) (x : Option Meaning) (words : Words) (b : Bounds) (y : Term × Choice) (c : Checked) → IsMemory x words b
    → MakesWordPart words (width_of b) b y c → StandsAlone s i y.0 → Chooses s sel y.1 → StandsForName s (OfWord q i sel) x c
word_part_stands s q i sel x words b y c v made st k = record {
  proper = subst (λ (n : ℕ). IsWidth n) (sym made.width_is) k.proper;
  own = k.own ∙ sym made.width_is;
  means = λ w m. made.value_is w m
      ∙ ap (λ (ds : List Digit). resize (selected (word_value (word_at words (number ds)) (width_of b) m) (range_of b) (number (value y.1.index m)) y.1.width) w) (st.means m)
      ∙ ap (λ (base : Option ℕ). resize (selected (word_value (word_at words (number (own_value s i m))) (width_of b) m) (range_of b) base y.1.width) w) (k.base m)
      ∙ ap (λ (n : ℕ). resize (selected (word_value (word_at words (number (own_value s i m))) (width_of b) m) (range_of b) (select_base s sel m) n) w) (sym k.own)
      ∙ ap (λ (ds : List Digit). resize ds w) (v.part (number (own_value s i m)) (select_base s sel m) (select_width s sel) m);
  sound = λ ws h names. made.sound ws (st.sound ws names.0, v.sound ws h, k.sound ws names.1, k.proper);
}

word_part_named : (s : Scope) (p q : ℕ) (i : Tree) (sel : SelectTree) (x : Option Meaning) (words : Words) (b : Bounds) (y : Found Term) (z : CheckedSelect) (f : Found Checked) → IsMemory x words b
    → IsIndex false s i y → IsSelect false s sel z → AreWordParts words (width_of b) b (followed y (choice_from p b z)) f → IsName s p (OfWord q i sel) x f
word_part_named s p q i sel x words b y z f v h g made = let k = chosen false s p b sel z g in record {
  finds = made_width (λ (w : Term × Choice) (c : Checked). MakesWordPart words (width_of b) b w c) (λ (c : Checked). c.width) (λ (w : Term × Choice). w.1.width) (followed y (choice_from p b z)) f made
      (λ w c q. q.width_is)
      ∙ second_of y (index false s i (checked s i)) (choice_from p b z) (λ (c : Choice). c.width) (part false s p b sel) h.finds k.finds
      ∙ ap (λ (n : Nature). each counted_width (asked s p (OfWord q i sel) n)) (sym v.nature);
  holds = made_holds (λ (w : Term × Choice) (c : Checked). MakesWordPart words (width_of b) b w c) (λ (w : Term × Choice). StandsAlone s i w.0 × Chooses s sel w.1)
      (λ (c : Checked). StandsForName s (OfWord q i sel) x c) (followed y (choice_from p b z)) f made
      (holds_followed (λ (t : Term). StandsAlone s i t) (λ (c : Choice). Chooses s sel c) y (choice_from p b z) h.holds k.holds)
      (λ w c m st. word_part_stands s q i sel x words b w c v m st.0 st.1);
}

memory_exact : (s : Scope) (p : ℕ) (sel : SelectsTree) (x : Option Meaning) (words : Words) (b : Bounds) (y : CheckedSelects) (f : Found Checked) → IsMemory x words b
    → AreSelects false s sel y → MemoryMade p words (width_of b) b y f → IsName s p sel x f
memory_exact s p Whole x words b code_selects.Whole f v h made = broken_named s p p p Whole x words b f v refl refl made
memory_exact s p (One sel) x words b (code_selects.One y) f v h made = one_named s p sel x words b y f v h made
memory_exact s p (OfWord q i sel) x words b (code_selects.OfWord y z) f v h made = word_part_named s p q i sel x words b y z f v h.0 h.1 made
memory_exact s p Whole x words b (code_selects.One y) f v h made = absurd h
memory_exact s p Whole x words b (code_selects.OfWord y z) f v h made = absurd h
memory_exact s p (One sel) x words b code_selects.Whole f v h made = absurd h
memory_exact s p (One sel) x words b (code_selects.OfWord y z) f v h made = absurd h
memory_exact s p (OfWord q i sel) x words b code_selects.Whole f v h made = absurd h
memory_exact s p (OfWord q i sel) x words b (code_selects.One y) f v h made = absurd h

pub memory_named : (s : Scope) (p : ℕ) (sel : SelectsTree) (x : Option Meaning) (words : Words) (n : ℕ) (b : Bounds) (y : CheckedSelects) (f : Found Checked) → n ≡ width_of b → IsMemory x words b
    → AreSelects false s sel y → MemoryMade p words n b y f → IsName s p sel x f
memory_named s p sel x words n b y f e v h made = memory_exact s p sel x words b y f v h (subst (λ (k : ℕ). MemoryMade p words k b y f) e made)

-- ---- what names are

pub constant_vector : (ds : List Digit) (b : Bounds) → IsWidth (width_of b) → IsVector (Some (Constant ds b)) (Const ds) b
constant_vector ds b h = record {
  nature = refl;
  proper = h;
  whole_width = refl;
  one_width = λ n. refl;
  whole = λ m. refl;
  one = λ base n m. refl;
  sound = λ ws k. tt;
}

pub object_vector : (o : DataObject) (w : ℕ) → w ≡ width_of o.bounds → o.words ≡ None → IsWidth (width_of o.bounds) → IsVector (Some (Object o)) (Signal (record { 0 = o.first }) w) o.bounds
object_vector o w i e h = record {
  nature = ap (λ (ws : Option Bounds). nature_of_object ws o.bounds) e;
  proper = h;
  whole_width = refl;
  one_width = λ n. ap (λ (ws : Option Bounds). object_width o ws n) e;
  whole = λ m. refl;
  one = λ base n m. sym (ap (λ (ws : Option Bounds). object_part o ws base n m) e);
  sound = λ ws k. let j = subst (λ (xs : Option Bounds). IsObjectOf o xs ws) e k in (j.0, j.1 ∙ sym i);
}

pub object_memory : (o : DataObject) (r : Bounds) → o.words ≡ Some r → IsWidth (width_of o.bounds) → IsMemory (Some (Object o)) (words_of o.first r) o.bounds
object_memory o r e h = record {
  nature = ap (λ (ws : Option Bounds). nature_of_object ws o.bounds) e;
  proper = h;
  one_width = λ n. ap (λ (ws : Option Bounds). object_width o ws n) e;
  one = λ base n m. sym (ap (λ (ws : Option Bounds). object_part o ws base n m) e);
  part = λ word base n m. ap (λ (ds : List Digit). selected ds (range_of o.bounds) base n) (sym (ap (λ (ws : Option Bounds). object_part o ws word n m) e));
  sound = λ ws k. subst (λ (xs : Option Bounds). IsObjectOf o xs ws) e k;
}

-- ---- the expression that is a name

pub name_checked : (s : Scope) (p : ℕ) (n : List ℕ) (sel : SelectsTree) (f : Found Checked) → IsName s p sel (find n s) f → IsChecked s (Named p n sel) f
name_checked s p n sel f h = record {
  finds = h.finds;
  holds = holds_so (λ (c : Checked). StandsForName s sel (find n s) c) (λ (c : Checked). StandsFor s (Named p n sel) c) f h.holds
      (λ c k. record { proper = k.proper; own = k.own; means = k.means; sound = λ ws q. k.sound ws q.0 q.1 });
}
