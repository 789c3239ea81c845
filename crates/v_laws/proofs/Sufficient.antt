-- What an expression reads suffices for its value.
use Rattle.std.proofs.Common.{◌≡◌, ◌+◌, ◌-◌, ◌*◌, ◌<◌, ◌≤◌, ◌&&◌, ◌||◌, ◌∙◌, ℕ, Bool, true, false, nat_le, nat_lt, max, List, [], ◌∷◌, ◌++◌, Option, Some, None, refl, sym, ap, arith, if◌then◌else◌}
use Rattle.std.proofs.lemmas.Bool.Decides.{nat_tests}
use Rattle.std.proofs.lemmas.List.Folds.{list_any-append}
use Rattle.four_value.specs.declared.Digit.{Digit}
use Rattle.four_value.specs.Vector.{number, resize}
use Rattle.gpi.specs.declared.selects.Words.{Words}
use Rattle.gpi.specs.Operators.{choose, truth}
use Rattle.gpi.specs.Selects.{selected, word_at}
use Rattle.gpi.specs.Terms.{copies, word_value}
use Rattle.v_syntax.specs.declared.expression.BinaryOperator.{BinaryOperator}
use Rattle.v_syntax.specs.ExpressionTrees.{Tree, Number, Named, Bracketed, Unary, Binary, Conditional, Concatenation, Replication, SelectsTree, Whole, One, OfWord, SelectTree, Bit, Part, IndexedPart, Trees, none, more, first_at}
use Rattle.v_flat.specs.declared.scope.rule.Broken.{Broken}
use Rattle.v_flat.specs.declared.scope.rule.ElabRule.TheVariants as rule
use Rattle.v_flat.specs.declared.scope.found.Found.{Found}
use Rattle.v_flat.specs.declared.scope.found.Found.TheVariants.{Sound, Noted, Lost}
use Rattle.v_flat.specs.declared.scope.meaning.Bounds.{Bounds}
use Rattle.v_flat.specs.declared.scope.meaning.DataObject.{DataObject}
use Rattle.v_flat.specs.declared.scope.meaning.Meaning.{Meaning}
use Rattle.v_flat.specs.declared.scope.meaning.Meaning.TheVariants.{Constant, Object, Later}
use Rattle.v_flat.specs.Scope.Found.{Holds, and_then, both, each, followed, needs, wants}
use Rattle.v_flat.specs.Scope.Limits.{most_digits}
use Rattle.v_flat.specs.Scope.Scope.{Scope, find, width_of}
use Rattle.v_flat.specs.Objects.{count_of, nature_of, nature_of_object, range_of, words_of}
use Rattle.v_flat.specs.Expressions.{Values, binary_class, binary_width, joined, left_width, meaning, named_value, no_signals, number_or, object_part, of_one, of_two, operand_width, right_width, select_base, select_width, unary_class, unary_width, width}
use Rattle.v_flat.specs.Checks.{all_checked, by_nature, checked, constant, counted, filled, index, narrow, of_memory, of_vector, part, select_at, select_made, sized, word}
use Rattle.v_flat.specs.Statements.{Span, all_read, name_read, reads, select_read, selects_read}
use Rattle.v_flat.specs.Design.{is_read}
use Rattle.v_flat.proofs.Holds.{holds_any, holds_both, holds_each, holds_followed, holds_needs, holds_then, holds_wants}
use Rattle.v_laws.specs.Reads.{AgreeOn, Expressions_read_enough, Suffices}
use Rattle.v_laws.proofs.Fixed.{holds_all, made_part, one_base}
use Rattle.v_laws.proofs.Places.{some_signals}

-- ---- what is so wherever no rule is broken, whatever the value is

pub weaker : {A : Type 0} (P Q : Type 0) (x : Found A) → Holds (λ (a : A). P) x → (P → Q) → Holds (λ (a : A). Q) x
weaker P Q (Sound a) h f = f h
weaker P Q (Noted b a) h f = tt
weaker P Q (Lost b) h f = tt

pub in_size : (P : Type 0) (p : ℕ) (x : Found ℕ) → Holds (λ (w : ℕ). P) x → Holds (λ (w : ℕ). P) (sized p x)
in_size P p x h =
    holds_then (λ (w : ℕ). P) (λ (w : ℕ). P) x (λ w. wants (nat_le w most_digits) rule.TooWide p (Sound w)) h
    (λ w k. holds_wants (λ (w : ℕ). P) (nat_le w most_digits) rule.TooWide p (Sound w) (λ u. k))

pub in_filled : (P : Type 0) (p : ℕ) (x : Found ℕ) → Holds (λ (w : ℕ). P) x → Holds (λ (w : ℕ). P) (filled p x)
in_filled P p x h =
    holds_then (λ (w : ℕ). P) (λ (w : ℕ). P) x (λ w. needs (nat_lt 0 w) rule.BadRange p (Sound w)) h
    (λ w k. holds_needs (λ (w : ℕ). P) (nat_lt 0 w) rule.BadRange p (Sound w) (λ u. k))

in_index : (P : Type 0) (s : Scope) (i : Tree) → Holds (λ (w : ℕ). P) (checked s i) → Holds (λ (u : Unit {0}). P) (index false s i (checked s i))
in_index P s i h = holds_each (λ (w : ℕ). P) (λ (u : Unit {0}). P) (λ w. tt) (checked s i) h (λ w k. k)

-- a rule is broken in any case
pub never : {A : Type 0} (P : Type 0) (x : Found A) (b : Broken) → Holds (λ (w : ℕ). P) (and_then x (λ u. Lost b))
never {A} P x b = holds_then (λ (u : A). Unit {0}) (λ (w : ℕ). P) x (λ u. Lost b) (holds_any x) (λ u k. tt)

-- ---- maps that agree

or_first : (a b : Bool) → a ≡ true → (a || b) ≡ true
or_first true b h = refl
or_first false b h = cc

or_second : (a b : Bool) → b ≡ true → (a || b) ≡ true
or_second true b h = refl
or_second false b h = h

abbrev pub is_in : ℕ → Span → Bool
is_in k x = nat_le x.first k && nat_lt k (x.first + x.count)

pub read_first : (k : ℕ) (xs ys : List Span) → is_read k xs ≡ true → is_read k (xs ++ ys) ≡ true
read_first k xs ys e = list_any-append (is_in k) xs ys ∙ or_first (is_read k xs) (is_read k ys) e

pub read_second : (k : ℕ) (xs ys : List Span) → is_read k ys ≡ true → is_read k (xs ++ ys) ≡ true
read_second k xs ys e = list_any-append (is_in k) xs ys ∙ or_second (is_read k xs) (is_read k ys) e

pub agree_first : (xs ys : List Span) (m n : Values) → AgreeOn (xs ++ ys) m n → AgreeOn xs m n
agree_first xs ys m n h k e = h k (read_first k xs ys e)

pub agree_second : (xs ys : List Span) (m n : Values) → AgreeOn (xs ++ ys) m n → AgreeOn ys m n
agree_second xs ys m n h k e = h k (read_second k xs ys e)

-- a signal of the object
abbrev pub object_span : DataObject → Option Bounds → List Span
object_span o w = record { first = o.first; count = count_of w } ∷ []

in_span : (first count k : ℕ) → first ≤ k → k < first + count → is_read k (record { first = first; count = count } ∷ []) ≡ true
in_span first count k l u = grind (arith, nat_tests)

-- ---- names

first_same : (o : DataObject) (w : Option Bounds) (m n : Values) → AgreeOn (object_span o w) m n → m o.first ≡ n o.first
first_same o w m n a = let c = some_signals w in a o.first (in_span o.first (count_of w) o.first (omega arith) (omega (arith, c)))

-- a word is one of the memory's
pub word_inside : (ws : Words) (i : Option ℕ) (n : ℕ) → word_at ws i ≡ Some n → (ws.first.0 ≤ n) × (n < ws.first.0 + ws.count)
word_inside ws None n e = cc
word_inside ws (Some i) n e = go (nat_le ws.low i && nat_lt i (ws.low + ws.count)) refl e
  where
    go : (b : Bool) → (nat_le ws.low i && nat_lt i (ws.low + ws.count)) ≡ b → (if b then Some (ws.first.0 + (i - ws.low)) else None) ≡ Some n → (ws.first.0 ≤ n) × (n < ws.first.0 + ws.count)
    go true f g = let h : ws.first.0 + (i - ws.low) ≡ n = cc in (grind (arith, nat_tests), grind (arith, nat_tests))
    go false f g = cc

object_same : (o : DataObject) (ws : Option Bounds) (base : Option ℕ) (w : ℕ) (m n : Values) → AgreeOn (object_span o ws) m n → object_part o ws base w m ≡ object_part o ws base w n
object_same o None base w m n a = ap (λ (ds : List Digit). selected ds (range_of o.bounds) base w) (first_same o None m n a)
object_same o (Some b) base w m n a = go (word_at (words_of o.first b) base) refl
  where
    go : (x : Option ℕ) → word_at (words_of o.first b) base ≡ x → word_value x (width_of o.bounds) m ≡ word_value x (width_of o.bounds) n
    go None e = refl
    go (Some k) e = let i = word_inside (words_of o.first b) base k e in a k (in_span o.first (width_of b) k i.0 i.1)

-- ---- expressions

abbrev AllSuffice : Scope → Trees → Type 0
AllSuffice s es = (m n : Values) → AgreeOn (all_read s es) m n → joined s es m ≡ joined s es n

-- the least index of a select
abbrev pub BaseSuffices : Scope → SelectTree → Type 0
BaseSuffices s sel = (m n : Values) → AgreeOn (select_read s sel) m n → select_base s sel m ≡ select_base s sel n

abbrev NameSuffices : Scope → SelectsTree → Option Meaning → Type 0
NameSuffices s sel x = (m n : Values) → AgreeOn (name_read x ++ selects_read s sel) m n → named_value s sel x m ≡ named_value s sel x n

binary_same : (s : Scope) (op : BinaryOperator) (l r : Tree) → Suffices s l → Suffices s r → Suffices s (Binary op l r)
binary_same s op l r f g w m n a =
    ap (λ (ds : List Digit). of_two (binary_class op) ds (meaning s r (right_width (binary_class op) w (width s l) (width s r)) m) w)
    (f (left_width (binary_class op) w (width s l) (width s r)) m n (agree_first (reads s l) (reads s r) m n a))
    ∙ ap (λ (ds : List Digit). of_two (binary_class op) (meaning s l (left_width (binary_class op) w (width s l) (width s r)) n) ds w)
    (g (right_width (binary_class op) w (width s l) (width s r)) m n (agree_second (reads s l) (reads s r) m n a))

conditional_same : (s : Scope) (c a b : Tree) → Suffices s c → Suffices s a → Suffices s b → Suffices s (Conditional c a b)
conditional_same s c a b f g h w m n k =
    let rest = agree_second (reads s c) (reads s a ++ reads s b) m n k in
    ap (λ (ds : List Digit). choose (truth ds) (meaning s a w m) (meaning s b w m)) (f (width s c) m n (agree_first (reads s c) (reads s a ++ reads s b) m n k))
    ∙ ap (λ (ds : List Digit). choose (truth (meaning s c (width s c) n)) ds (meaning s b w m)) (g w m n (agree_first (reads s a) (reads s b) m n rest))
    ∙ ap (λ (ds : List Digit). choose (truth (meaning s c (width s c) n)) (meaning s a w n) ds) (h w m n (agree_second (reads s a) (reads s b) m n rest))

joined_same : (s : Scope) (e : Tree) (es : Trees) → Suffices s e → AllSuffice s es → AllSuffice s (more e es)
joined_same s e es f g m n a =
    ap (λ (ds : List Digit). ds ++ meaning s e (width s e) m) (g m n (agree_second (reads s e) (all_read s es) m n a))
    ∙ ap (λ (ds : List Digit). joined s es n ++ ds) (f (width s e) m n (agree_first (reads s e) (all_read s es) m n a))

-- one select of an object
one_same : (s : Scope) (o : DataObject) (sel : SelectTree) → BaseSuffices s sel → NameSuffices s (One sel) (Some (Object o))
one_same s o sel h m n a =
    ap (λ (base : Option ℕ). object_part o o.words base (select_width s sel) m) (h m n (agree_second (object_span o o.words) (select_read s sel) m n a))
    ∙ object_same o o.words (select_base s sel n) (select_width s sel) m n (agree_first (object_span o o.words) (select_read s sel) m n a)

-- a select of a word
two_same : (s : Scope) (o : DataObject) (p : ℕ) (i : Tree) (sel : SelectTree) → Suffices s i → BaseSuffices s sel → NameSuffices s (OfWord p i sel) (Some (Object o))
two_same s o p i sel f h m n a =
    let rest = agree_second (object_span o o.words) (reads s i ++ select_read s sel) m n a in
    ap (λ (ds : List Digit). selected (object_part o o.words (number ds) (select_width s sel) m) (range_of o.bounds) (select_base s sel m) (select_width s sel))
    (f (width s i) m n (agree_first (reads s i) (select_read s sel) m n rest))
    ∙ ap (λ (base : Option ℕ). selected (object_part o o.words (number (meaning s i (width s i) n)) (select_width s sel) m) (range_of o.bounds) base (select_width s sel))
    (h m n (agree_second (reads s i) (select_read s sel) m n rest))
    ∙ ap (λ (ds : List Digit). selected ds (range_of o.bounds) (select_base s sel n) (select_width s sel))
    (object_same o o.words (number (meaning s i (width s i) n)) (select_width s sel) m n (agree_first (object_span o o.words) (reads s i ++ select_read s sel) m n a))

-- an index of a vector or a memory
pub one_found : (s : Scope) (p : ℕ) (sel : SelectTree) (b : Bounds) (ws : Option Bounds)
    → Holds (λ (w : ℕ). BaseSuffices s sel) (part false s p b sel) → Holds (λ (w : ℕ). BaseSuffices s sel) (word false s b sel)
    → Holds (λ (w : ℕ). BaseSuffices s sel) (by_nature p (nature_of_object ws b) (λ c. of_vector false s p c (One sel)) (λ c. of_memory false s p c (One sel)))
one_found s p sel b None h g = h
one_found s p sel b (Some ws) h g = g

pub two_found : (s : Scope) (p q : ℕ) (i : Tree) (sel : SelectTree) (b : Bounds) (ws : Option Bounds)
    → Holds (λ (w : ℕ). Suffices s i) (checked s i) → Holds (λ (w : ℕ). BaseSuffices s sel) (part false s p b sel)
    → Holds (λ (w : ℕ). Suffices s i × BaseSuffices s sel) (by_nature p (nature_of_object ws b) (λ c. of_vector false s p c (OfWord q i sel)) (λ c. of_memory false s p c (OfWord q i sel)))
two_found s p q i sel b None f h = never (Suffices s i × BaseSuffices s sel) (index false s i (checked s i)) (record { rule = rule.BadRange; place = select_at sel })
two_found s p q i sel b (Some ws) f h =
    holds_each (λ (x : Unit {0} × ℕ). Suffices s i × BaseSuffices s sel) (λ (w : ℕ). Suffices s i × BaseSuffices s sel) (λ x. x.1) (followed (index false s i (checked s i)) (part false s p b sel))
    (holds_followed (λ (u : Unit {0}). Suffices s i) (λ (w : ℕ). BaseSuffices s sel) (index false s i (checked s i)) (part false s p b sel) (in_index (Suffices s i) s i f) h)
    (λ x k. k)

mutual
  pub suffices : (s : Scope) (e : Tree) → Holds (λ (w : ℕ). Suffices s e) (checked s e)
  suffices s (Number p ds) = λ w m n a. refl
  suffices s (Named p x sel) =
      weaker (NameSuffices s sel (find x s)) (Suffices s (Named p x sel)) (checked s (Named p x sel)) (name_suffices s p sel (find x s)) (λ h w m n a. ap (λ (ds : List Digit). resize ds w) (h m n a))
  suffices s (Bracketed p e) = in_size (Suffices s e) p (checked s e) (suffices s e)
  suffices s (Unary p op e) =
      in_size (Suffices s (Unary p op e)) p (each (unary_width (unary_class op)) (checked s e))
      (holds_each (λ (w : ℕ). Suffices s e) (λ (w : ℕ). Suffices s (Unary p op e)) (unary_width (unary_class op)) (checked s e) (suffices s e)
      (λ v h w m n a. ap (λ (ds : List Digit). of_one (unary_class op) ds w) (h (operand_width (unary_class op) w (width s e)) m n a)))
  suffices s (Binary op l r) =
      in_size (Suffices s (Binary op l r)) (first_at l) (each (λ x. binary_width (binary_class op) x.0 x.1) (both (checked s l) (checked s r)))
      (holds_each (λ (x : ℕ × ℕ). Suffices s l × Suffices s r) (λ (w : ℕ). Suffices s (Binary op l r)) (λ x. binary_width (binary_class op) x.0 x.1) (both (checked s l) (checked s r))
      (holds_both (λ (w : ℕ). Suffices s l) (λ (w : ℕ). Suffices s r) (checked s l) (checked s r) (suffices s l) (suffices s r))
      (λ x h. binary_same s op l r h.0 h.1))
  suffices s (Conditional c a b) =
      in_size (Suffices s (Conditional c a b)) (first_at c) (each (λ x. max x.1.0 x.1.1) (both (checked s c) (both (checked s a) (checked s b))))
      (holds_each (λ (x : ℕ × (ℕ × ℕ)). Suffices s c × (Suffices s a × Suffices s b)) (λ (w : ℕ). Suffices s (Conditional c a b)) (λ x. max x.1.0 x.1.1) (both (checked s c) (both (checked s a) (checked s b)))
      (holds_both (λ (w : ℕ). Suffices s c) (λ (x : ℕ × ℕ). Suffices s a × Suffices s b) (checked s c) (both (checked s a) (checked s b)) (suffices s c)
      (holds_both (λ (w : ℕ). Suffices s a) (λ (w : ℕ). Suffices s b) (checked s a) (checked s b) (suffices s a) (suffices s b)))
      (λ x h. conditional_same s c a b h.0 h.1.0 h.1.1))
  suffices s (Concatenation p es) =
      in_size (Suffices s (Concatenation p es)) p (filled p (all_checked s es)) (in_filled (Suffices s (Concatenation p es)) p (all_checked s es)
      (weaker (AllSuffice s es) (Suffices s (Concatenation p es)) (all_checked s es) (all_suffice s es) (λ h w m n a. ap (λ (ds : List Digit). resize ds w) (h m n a))))
  suffices s (Replication p c es) =
      in_size (Suffices s (Replication p c es)) p (each (λ x. x.0 * x.1) (both (and_then (constant s c (checked s c)) (counted (first_at c))) (filled p (all_checked s es))))
      (holds_each (λ (x : ℕ × ℕ). Unit {0} × AllSuffice s es) (λ (w : ℕ). Suffices s (Replication p c es)) (λ x. x.0 * x.1)
      (both (and_then (constant s c (checked s c)) (counted (first_at c))) (filled p (all_checked s es)))
      (holds_both (λ (w : ℕ). Unit {0}) (λ (w : ℕ). AllSuffice s es) (and_then (constant s c (checked s c)) (counted (first_at c))) (filled p (all_checked s es))
      (holds_any (and_then (constant s c (checked s c)) (counted (first_at c)))) (in_filled (AllSuffice s es) p (all_checked s es) (all_suffice s es)))
      (λ x h w m n a. ap (λ (ds : List Digit). resize (copies (number_or (number (meaning s c (width s c) no_signals))) ds) w) (h.1 m n a)))

  all_suffice : (s : Scope) (es : Trees) → Holds (λ (w : ℕ). AllSuffice s es) (all_checked s es)
  all_suffice s none = λ m n a. refl
  all_suffice s (more e es) =
      holds_each (λ (x : ℕ × ℕ). Suffices s e × AllSuffice s es) (λ (w : ℕ). AllSuffice s (more e es)) (λ x. x.0 + x.1) (both (checked s e) (all_checked s es))
      (holds_both (λ (w : ℕ). Suffices s e) (λ (w : ℕ). AllSuffice s es) (checked s e) (all_checked s es) (suffices s e) (all_suffice s es))
      (λ x h. joined_same s e es h.0 h.1)

  name_suffices : (s : Scope) (p : ℕ) (sel : SelectsTree) (x : Option Meaning)
      → Holds (λ (w : ℕ). NameSuffices s sel x) (by_nature p (nature_of x) (λ b. of_vector false s p b sel) (λ b. of_memory false s p b sel))
  name_suffices s p sel None = tt
  name_suffices s p sel (Some Later) = tt
  name_suffices s p Whole (Some (Constant ds b)) = λ m n a. refl
  name_suffices s p (One sel) (Some (Constant ds b)) =
      weaker (BaseSuffices s sel) (NameSuffices s (One sel) (Some (Constant ds b))) (part false s p b sel) (base_suffices s p b sel)
      (λ h m n a. ap (λ (base : Option ℕ). selected ds (range_of b) base (select_width s sel)) (h m n a))
  name_suffices s p (OfWord q i sel) (Some (Constant ds b)) =
      never (NameSuffices s (OfWord q i sel) (Some (Constant ds b))) (index false s i (checked s i)) (record { rule = rule.BadRange; place = select_at sel })
  name_suffices s p Whole (Some (Object o)) =
      holds_all (NameSuffices s Whole (Some (Object o))) (by_nature p (nature_of_object o.words o.bounds) (λ b. of_vector false s p b Whole) (λ b. of_memory false s p b Whole)) (λ m n a. first_same o o.words m n a)
  name_suffices s p (One sel) (Some (Object o)) =
      weaker (BaseSuffices s sel) (NameSuffices s (One sel) (Some (Object o))) (by_nature p (nature_of_object o.words o.bounds) (λ b. of_vector false s p b (One sel)) (λ b. of_memory false s p b (One sel)))
      (one_found s p sel o.bounds o.words (base_suffices s p o.bounds sel) (word_suffices s o.bounds sel)) (one_same s o sel)
  name_suffices s p (OfWord q i sel) (Some (Object o)) =
      weaker (Suffices s i × BaseSuffices s sel) (NameSuffices s (OfWord q i sel) (Some (Object o)))
      (by_nature p (nature_of_object o.words o.bounds) (λ b. of_vector false s p b (OfWord q i sel)) (λ b. of_memory false s p b (OfWord q i sel)))
      (two_found s p q i sel o.bounds o.words (suffices s i) (base_suffices s p o.bounds sel)) (λ h. two_same s o q i sel h.0 h.1)

  pub word_suffices : (s : Scope) (b : Bounds) (sel : SelectTree) → Holds (λ (w : ℕ). BaseSuffices s sel) (word false s b sel)
  word_suffices s b (Bit q i) =
      holds_each (λ (u : Unit {0}). Suffices s i) (λ (w : ℕ). BaseSuffices s (Bit q i)) (λ u. width_of b) (index false s i (checked s i)) (in_index (Suffices s i) s i (suffices s i))
      (λ u h m n a. ap (λ (ds : List Digit). number ds) (h (width s i) m n a))
  word_suffices s b (Part q l r) = tt
  word_suffices s b (IndexedPart q c n) = tt

  pub base_suffices : (s : Scope) (p : ℕ) (b : Bounds) (sel : SelectTree) → Holds (λ (w : ℕ). BaseSuffices s sel) (part false s p b sel)
  base_suffices s p b (Bit q i) =
      holds_each (λ (u : Unit {0}). Suffices s i) (λ (w : ℕ). BaseSuffices s (Bit q i)) (λ u. 1) (index false s i (checked s i)) (in_index (Suffices s i) s i (suffices s i))
      (λ u h m n a. ap (λ (ds : List Digit). number ds) (h (width s i) m n a))
  base_suffices s p b (Part q l r) =
      weaker (select_made s (Part q l r) ≡ true) (BaseSuffices s (Part q l r)) (part true s p b (Part q l r)) (made_part s p b (Part q l r))
      (λ h m n a. one_base s (Part q l r) m h ∙ sym (one_base s (Part q l r) n h))
  base_suffices s p b (IndexedPart q c n) =
      holds_each (λ (x : Unit {0} × ℕ). Suffices s c × Unit {0}) (λ (w : ℕ). BaseSuffices s (IndexedPart q c n)) (λ x. x.1)
      (followed (index false s c (checked s c)) (and_then (constant s n (checked s n)) (λ ds. and_then (counted (first_at n) ds) (narrow p))))
      (holds_followed (λ (u : Unit {0}). Suffices s c) (λ (w : ℕ). Unit {0}) (index false s c (checked s c)) (and_then (constant s n (checked s n)) (λ ds. and_then (counted (first_at n) ds) (narrow p)))
      (in_index (Suffices s c) s c (suffices s c)) (holds_any (and_then (constant s n (checked s n)) (λ ds. and_then (counted (first_at n) ds) (narrow p)))))
      (λ x h m k a. ap (λ (ds : List Digit). number ds) (h.0 (width s c) m k a))

pub expressions_read_enough : Expressions_read_enough
expressions_read_enough = suffices
