-- The width that is found is the width.
use Rattle.std.proofs.Common.{◌≡◌, ℕ, ◌+◌, ◌*◌, ◌≤◌, max, Bool, false, List, Option, Some, None, refl, ap, ◌∙◌, subst, nat_le, nat_lt, arith}
use Rattle.std.proofs.lemmas.Bool.Decides.{nat_tests}
use Rattle.four_value.specs.declared.Digit.{Digit}
use Rattle.four_value.specs.Vector.{number}
use Rattle.v_syntax.specs.ExpressionTrees.{Tree, Number, Named, Bracketed, Unary, Binary, Conditional, Concatenation, Replication, SelectsTree, Whole, One, OfWord, SelectTree, Bit, Part, IndexedPart, Trees, none, more, first_at}
use Rattle.v_flat.specs.declared.scope.rule.ElabRule.TheVariants as rule
use Rattle.v_flat.specs.declared.scope.found.Found.{Found}
use Rattle.v_flat.specs.declared.scope.found.Found.TheVariants.{Sound, Noted, Lost}
use Rattle.v_flat.specs.Scope.Found.{each, both, followed, and_then, settled, broken, wants, needs}
use Rattle.v_flat.specs.declared.scope.meaning.Bounds.{Bounds}
use Rattle.v_flat.specs.declared.scope.meaning.DataObject.{DataObject}
use Rattle.v_flat.specs.declared.scope.meaning.Meaning.{Meaning}
use Rattle.v_flat.specs.declared.scope.meaning.Meaning.TheVariants.{Constant, Object, Later}
use Rattle.v_flat.specs.Scope.Limits.{most_digits}
use Rattle.v_flat.specs.Scope.Scope.{span, width_of, Scope, find}
use Rattle.v_flat.specs.Objects.{nature_of, nature_of_object}
use Rattle.v_flat.specs.Expressions.{width, widths, named_width, object_width, select_width, own_value, own_number, no_signals, number_or, meaning, unary_class, binary_class, unary_width, binary_width}
use Rattle.v_flat.specs.Checks.{checked, all_checked, made, known, known_by, constant, index, sized, filled, narrow, counted, part_width, go_with, by_nature, of_vector, of_memory, part, select_at}
use Rattle.v_flat.specs.Scope.Found.{Holds}
use Rattle.v_flat.proofs.Holds.{holds_then, holds_each, holds_both, holds_followed, holds_settled, holds_wants, holds_needs, holds_any}

sized_found : (p n : ℕ) (x : Found ℕ) → Holds (λ (w : ℕ). n ≡ w) x → Holds (λ (w : ℕ). n ≡ w) (sized p x)
sized_found p n x h = holds_then (λ (w : ℕ). n ≡ w) (λ (w : ℕ). n ≡ w) x (λ w. wants (nat_le w most_digits) rule.TooWide p (Sound w)) h
    (λ w e. holds_wants (λ (v : ℕ). n ≡ v) (nat_le w most_digits) rule.TooWide p (Sound w) (λ u. e))

known_found : (p : ℕ) (ds : List Digit) (n : Option ℕ) → Holds (λ (es : List Digit). ds ≡ es) (known_by p ds n)
known_found p ds None = tt
known_found p ds (Some n) = refl

pub constant_found : (s : Scope) (e : Tree) (x : Found ℕ) → Holds (λ (w : ℕ). width s e ≡ w) x → Holds (λ (ds : List Digit). own_value s e no_signals ≡ ds) (constant s e x)
constant_found s e x h =
    holds_then (λ (w : ℕ). width s e ≡ w) (λ (ds : List Digit). own_value s e no_signals ≡ ds) (settled (needs (made s e) rule.NotConstant (first_at e) x))
    (λ w. known (first_at e) (meaning s e w no_signals))
    (holds_settled (λ (w : ℕ). width s e ≡ w) (needs (made s e) rule.NotConstant (first_at e) x) (holds_needs (λ (w : ℕ). width s e ≡ w) (made s e) rule.NotConstant (first_at e) x (λ u. h)))
    (λ w q. subst (λ (v : ℕ). Holds (λ (ds : List Digit). own_value s e no_signals ≡ ds) (known (first_at e) (meaning s e v no_signals))) q
    (known_found (first_at e) (own_value s e no_signals) (number (own_value s e no_signals))))

pub counted_found : (p : ℕ) (ds : List Digit) → Holds (λ (n : ℕ). number_or (number ds) ≡ n) (counted p ds)
counted_found p ds = holds_needs (λ (n : ℕ). number_or (number ds) ≡ n) (nat_lt 0 (number_or (number ds))) rule.BadRange p (Sound (number_or (number ds))) (λ u. refl)

filled_found : (p n : ℕ) (x : Found ℕ) → Holds (λ (w : ℕ). n ≡ w) x → Holds (λ (w : ℕ). n ≡ w) (filled p x)
filled_found p n x h = holds_then (λ (w : ℕ). n ≡ w) (λ (w : ℕ). n ≡ w) x (λ w. needs (nat_lt 0 w) rule.BadRange p (Sound w)) h
    (λ w e. holds_needs (λ (v : ℕ). n ≡ v) (nat_lt 0 w) rule.BadRange p (Sound w) (λ u. e))

narrow_found : (p w : ℕ) → Holds (λ (n : ℕ). w ≡ n) (narrow p w)
narrow_found p w = holds_needs (λ (n : ℕ). w ≡ n) (nat_le w most_digits) rule.TooWide p (Sound w) (λ u. refl)

part_width_found : (q p : ℕ) (b : Bounds) (i j : ℕ) → Holds (λ (n : ℕ). span i j ≡ n) (part_width q p b i j)
part_width_found q p b i j = holds_needs (λ (n : ℕ). span i j ≡ n) (go_with b i j) rule.BadRange q (narrow p (span i j)) (λ u. narrow_found p (span i j))

one_found : (n : ℕ) (x : Found (Unit {0})) → Holds (λ (w : ℕ). n ≡ w) (each (λ u. n) x)
one_found n (Sound u) = refl
one_found n (Noted b u) = tt
one_found n (Lost b) = tt

second_found : (A : Type 0) (n : ℕ) (x : Found A) (y : Found ℕ) → Holds (λ (w : ℕ). n ≡ w) y → Holds (λ (w : ℕ). n ≡ w) (each (λ z. z.1) (followed x y))
second_found A n x y h = holds_each (λ (z : A × ℕ). Unit {0} × (n ≡ z.1)) (λ (w : ℕ). n ≡ w) (λ z. z.1) (followed x y)
    (holds_followed (λ (a : A). Unit {0}) (λ (w : ℕ). n ≡ w) x y (holds_any x) h) (λ z k. k.1)

-- two selects on a vector
word_wrong : (s : Scope) (i : Tree) (n p : ℕ) → Holds (λ (w : ℕ). n ≡ w) (and_then (index false s i (checked s i)) (λ u. broken rule.BadRange p))
word_wrong s i n p = holds_then (λ (u : Unit {0}). Unit {0}) (λ (w : ℕ). n ≡ w) (index false s i (checked s i)) (λ u. broken rule.BadRange p) (holds_any (index false s i (checked s i))) (λ u k. tt)

whole_found : (s : Scope) (p : ℕ) (o : DataObject) (ws : Option Bounds)
    → Holds (λ (w : ℕ). width_of o.bounds ≡ w) (by_nature p (nature_of_object ws o.bounds) (λ b. of_vector false s p b Whole) (λ b. of_memory false s p b Whole))
whole_found s p o None = refl
whole_found s p o (Some ws) = tt

two_found : (s : Scope) (p : ℕ) (i : Tree) (sel : SelectTree) (o : DataObject) (q : ℕ) (ws : Option Bounds) → Holds (λ (w : ℕ). select_width s sel ≡ w) (part false s p o.bounds sel)
    → Holds (λ (w : ℕ). select_width s sel ≡ w) (by_nature p (nature_of_object ws o.bounds) (λ b. of_vector false s p b (OfWord q i sel)) (λ b. of_memory false s p b (OfWord q i sel)))
two_found s p i sel o q None h = word_wrong s i (select_width s sel) (select_at sel)
two_found s p i sel o q (Some ws) h = second_found (Unit {0}) (select_width s sel) (index false s i (checked s i)) (part false s p o.bounds sel) h

one_select_found : (s : Scope) (p : ℕ) (sel : SelectTree) (o : DataObject) (ws : Option Bounds) → Holds (λ (w : ℕ). select_width s sel ≡ w) (part false s p o.bounds sel)
    → Holds (λ (w : ℕ). object_width o ws (select_width s sel) ≡ w) (by_nature p (nature_of_object ws o.bounds) (λ b. of_vector false s p b (One sel)) (λ b. of_memory false s p b (One sel)))
one_select_found s p sel o None h = h
one_select_found s p (Bit q i) o (Some ws) h = one_found (width_of o.bounds) (index false s i (checked s i))
one_select_found s p (Part q l r) o (Some ws) h = tt
one_select_found s p (IndexedPart q c n) o (Some ws) h = tt

mutual
  pub widths_found : (s : Scope) (e : Tree) → Holds (λ (w : ℕ). width s e ≡ w) (checked s e)
  widths_found s (Number p ds) = refl
  widths_found s (Named p n sel) = named_found s p sel (find n s)
  widths_found s (Bracketed p e) = sized_found p (width s e) (checked s e) (widths_found s e)
  widths_found s (Unary p op e) = sized_found p (unary_width (unary_class op) (width s e)) (each (unary_width (unary_class op)) (checked s e))
      (holds_each (λ (w : ℕ). width s e ≡ w) (λ (w : ℕ). unary_width (unary_class op) (width s e) ≡ w) (unary_width (unary_class op)) (checked s e) (widths_found s e)
      (λ w q. ap (λ (v : ℕ). unary_width (unary_class op) v) q))
  widths_found s (Binary op l r) = sized_found (first_at l) (binary_width (binary_class op) (width s l) (width s r)) (each (λ x. binary_width (binary_class op) x.0 x.1) (both (checked s l) (checked s r)))
      (holds_each (λ (x : ℕ × ℕ). (width s l ≡ x.0) × (width s r ≡ x.1)) (λ (w : ℕ). binary_width (binary_class op) (width s l) (width s r) ≡ w) (λ x. binary_width (binary_class op) x.0 x.1) (both (checked s l) (checked s r))
      (holds_both (λ (w : ℕ). width s l ≡ w) (λ (w : ℕ). width s r ≡ w) (checked s l) (checked s r) (widths_found s l) (widths_found s r))
      (λ x q. ap (λ (v : ℕ). binary_width (binary_class op) v (width s r)) q.0 ∙ ap (λ (v : ℕ). binary_width (binary_class op) x.0 v) q.1))
  widths_found s (Conditional c a b) = sized_found (first_at c) (max (width s a) (width s b)) (each (λ x. max x.1.0 x.1.1) (both (checked s c) (both (checked s a) (checked s b))))
      (holds_each (λ (x : ℕ × (ℕ × ℕ)). Unit {0} × ((width s a ≡ x.1.0) × (width s b ≡ x.1.1))) (λ (w : ℕ). max (width s a) (width s b) ≡ w) (λ x. max x.1.0 x.1.1) (both (checked s c) (both (checked s a) (checked s b)))
      (holds_both (λ (w : ℕ). Unit {0}) (λ (x : ℕ × ℕ). (width s a ≡ x.0) × (width s b ≡ x.1)) (checked s c) (both (checked s a) (checked s b)) (holds_any (checked s c))
      (holds_both (λ (w : ℕ). width s a ≡ w) (λ (w : ℕ). width s b ≡ w) (checked s a) (checked s b) (widths_found s a) (widths_found s b)))
      (λ x q. ap (λ (v : ℕ). max v (width s b)) q.1.0 ∙ ap (λ (v : ℕ). max x.1.0 v) q.1.1))
  widths_found s (Concatenation p es) = sized_found p (widths s es) (filled p (all_checked s es)) (filled_found p (widths s es) (all_checked s es) (all_found s es))
  widths_found s (Replication p c es) = sized_found p (number_or (number (own_value s c no_signals)) * widths s es) (each (λ x. x.0 * x.1) (both (and_then (constant s c (checked s c)) (counted (first_at c))) (filled p (all_checked s es))))
      (holds_each (λ (x : ℕ × ℕ). (number_or (number (own_value s c no_signals)) ≡ x.0) × (widths s es ≡ x.1)) (λ (w : ℕ). number_or (number (own_value s c no_signals)) * widths s es ≡ w) (λ x. x.0 * x.1) (both (and_then (constant s c (checked s c)) (counted (first_at c))) (filled p (all_checked s es)))
      (holds_both (λ (n : ℕ). number_or (number (own_value s c no_signals)) ≡ n) (λ (w : ℕ). widths s es ≡ w) (and_then (constant s c (checked s c)) (counted (first_at c))) (filled p (all_checked s es))
      (holds_then (λ (ds : List Digit). own_value s c no_signals ≡ ds) (λ (n : ℕ). number_or (number (own_value s c no_signals)) ≡ n) (constant s c (checked s c)) (counted (first_at c)) (constant_found s c (checked s c) (widths_found s c))
      (λ ds q. subst (λ (es : List Digit). Holds (λ (n : ℕ). number_or (number (own_value s c no_signals)) ≡ n) (counted (first_at c) es)) q (counted_found (first_at c) (own_value s c no_signals))))
      (filled_found p (widths s es) (all_checked s es) (all_found s es)))
      (λ x q. ap (λ (v : ℕ). v * widths s es) q.0 ∙ ap (λ (v : ℕ). x.0 * v) q.1))

  pub all_found : (s : Scope) (es : Trees) → Holds (λ (w : ℕ). widths s es ≡ w) (all_checked s es)
  all_found s none = refl
  all_found s (more e es) = holds_each (λ (x : ℕ × ℕ). (width s e ≡ x.0) × (widths s es ≡ x.1)) (λ (w : ℕ). width s e + widths s es ≡ w) (λ x. x.0 + x.1) (both (checked s e) (all_checked s es))
      (holds_both (λ (w : ℕ). width s e ≡ w) (λ (w : ℕ). widths s es ≡ w) (checked s e) (all_checked s es) (widths_found s e) (all_found s es))
      (λ x q. ap (λ (v : ℕ). v + widths s es) q.0 ∙ ap (λ (v : ℕ). x.0 + v) q.1)

  pub named_found : (s : Scope) (p : ℕ) (sel : SelectsTree) (x : Option Meaning) → Holds (λ (w : ℕ). named_width s sel x ≡ w) (by_nature p (nature_of x) (λ b. of_vector false s p b sel) (λ b. of_memory false s p b sel))
  named_found s p sel None = tt
  named_found s p sel (Some Later) = tt
  named_found s p Whole (Some (Constant ds b)) = refl
  named_found s p (One sel) (Some (Constant ds b)) = part_found false s p b sel
  named_found s p (OfWord q i sel) (Some (Constant ds b)) = word_wrong s i (select_width s sel) (select_at sel)
  named_found s p Whole (Some (Object o)) = whole_found s p o o.words
  named_found s p (One sel) (Some (Object o)) = one_select_found s p sel o o.words (part_found false s p o.bounds sel)
  named_found s p (OfWord q i sel) (Some (Object o)) = two_found s p i sel o q o.words (part_found false s p o.bounds sel)

  -- a select from a vector or of a word
  pub part_found : (fixed : Bool) (s : Scope) (p : ℕ) (b : Bounds) (sel : SelectTree) → Holds (λ (w : ℕ). select_width s sel ≡ w) (part fixed s p b sel)
  part_found fixed s p b (Bit q i) = one_found 1 (index fixed s i (checked s i))
  part_found fixed s p b (Part q l r) =
      holds_then (λ (x : List Digit × List Digit). (own_value s l no_signals ≡ x.0) × (own_value s r no_signals ≡ x.1)) (λ (w : ℕ). select_width s (Part q l r) ≡ w)
      (both (constant s l (checked s l)) (constant s r (checked s r))) (λ x. part_width q p b (number_or (number x.0)) (number_or (number x.1)))
      (holds_both (λ (ds : List Digit). own_value s l no_signals ≡ ds) (λ (ds : List Digit). own_value s r no_signals ≡ ds) (constant s l (checked s l)) (constant s r (checked s r))
      (constant_found s l (checked s l) (widths_found s l)) (constant_found s r (checked s r) (widths_found s r)))
      (λ x k. subst (λ (ds : List Digit). Holds (λ (w : ℕ). select_width s (Part q l r) ≡ w) (part_width q p b (number_or (number ds)) (number_or (number x.1)))) k.0
      (subst (λ (ds : List Digit). Holds (λ (w : ℕ). select_width s (Part q l r) ≡ w) (part_width q p b (number_or (number (own_value s l no_signals))) (number_or (number ds)))) k.1
      (part_width_found q p b (number_or (number (own_value s l no_signals))) (number_or (number (own_value s r no_signals))))))
  part_found fixed s p b (IndexedPart q c n) =
      second_found (Unit {0}) (select_width s (IndexedPart q c n)) (index fixed s c (checked s c)) (and_then (constant s n (checked s n)) (λ ds. and_then (counted (first_at n) ds) (narrow p)))
      (holds_then (λ (ds : List Digit). own_value s n no_signals ≡ ds) (λ (w : ℕ). select_width s (IndexedPart q c n) ≡ w) (constant s n (checked s n)) (λ ds. and_then (counted (first_at n) ds) (narrow p))
      (constant_found s n (checked s n) (widths_found s n))
      (λ ds k. subst (λ (es : List Digit). Holds (λ (w : ℕ). select_width s (IndexedPart q c n) ≡ w) (and_then (counted (first_at n) es) (narrow p))) k
      (holds_then (λ (w : ℕ). select_width s (IndexedPart q c n) ≡ w) (λ (w : ℕ). select_width s (IndexedPart q c n) ≡ w) (counted (first_at n) (own_value s n no_signals)) (narrow p)
      (counted_found (first_at n) (own_value s n no_signals))
      (λ w e. subst (λ (v : ℕ). Holds (λ (u : ℕ). select_width s (IndexedPart q c n) ≡ u) (narrow p v)) e (narrow_found p (select_width s (IndexedPart q c n)))))))

-- ---- counts

counted_low : (p : ℕ) (ds : List Digit) → Holds (λ (n : ℕ). (number_or (number ds) ≡ n) × (1 ≤ n)) (counted p ds)
counted_low p ds = holds_needs (λ (n : ℕ). (number_or (number ds) ≡ n) × (1 ≤ n)) (nat_lt 0 (number_or (number ds))) rule.BadRange p (Sound (number_or (number ds)))
    (λ u. (refl, grind (arith, nat_tests)))

-- a count is the number of its expression, and at least 1
pub count_found : (s : Scope) (e : Tree) → Holds (λ (n : ℕ). (own_number s e ≡ n) × (1 ≤ n)) (and_then (constant s e (checked s e)) (counted (first_at e)))
count_found s e = holds_then (λ (ds : List Digit). own_value s e no_signals ≡ ds) (λ (n : ℕ). (own_number s e ≡ n) × (1 ≤ n)) (constant s e (checked s e)) (counted (first_at e))
    (constant_found s e (checked s e) (widths_found s e))
    (λ ds q. subst (λ (es : List Digit). Holds (λ (n : ℕ). (own_number s e ≡ n) × (1 ≤ n)) (counted (first_at e) es)) q (counted_low (first_at e) (own_value s e no_signals)))
