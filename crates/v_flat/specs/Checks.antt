-- What is broken first in an expression, and its width where that is known (IEEE 1364-2005, clauses 5.1, 5.2 and 5.4).
use Rattle.std.specs.Prelude.{ℕ, ◌+◌, ◌*◌, ◌&&◌, List, length, max, Option, None, Some, Bool, true, false, nat_le, nat_lt, if◌then◌else◌}
use Rattle.four_value.specs.declared.Digit.{Digit}
use Rattle.four_value.specs.Vector.{number}
use Rattle.v_syntax.specs.ExpressionTrees.{Tree, Number, Named, Bracketed, Unary, Binary, Conditional, Concatenation, Replication, SelectsTree, Whole, One, OfWord, SelectTree, Bit, Part, IndexedPart, Trees, none, more, first_at}
use Rattle.v_flat.specs.declared.scope.rule.ElabRule.TheVariants as rule
use Rattle.v_flat.specs.declared.scope.found.Found.{Found}
use Rattle.v_flat.specs.declared.scope.found.Found.TheVariants.{Sound}
use Rattle.v_flat.specs.Scope.Found.{each, both, followed, and_then, settled, broken, wants, needs}
use Rattle.v_flat.specs.declared.scope.meaning.Bounds.{Bounds}
use Rattle.v_flat.specs.declared.scope.meaning.Meaning.{Meaning}
use Rattle.v_flat.specs.declared.scope.meaning.Meaning.TheVariants.{Constant}
use Rattle.v_flat.specs.Scope.Limits.{most_digits}
use Rattle.v_flat.specs.Scope.Scope.{span, width_of, is_falling, Scope, find}
use Rattle.v_flat.specs.Objects.{Nature, Unknown, NoConstant, Vector, Memory, nature_of}
use Rattle.v_flat.specs.Expressions.{unary_class, binary_class, unary_width, binary_width, number_or, meaning, no_signals}

-- ---- constants (clause 5)

abbrev pub is_constant : Option Meaning → Bool
is_constant (Some (Constant ds b)) = true
is_constant _ = false

-- made of numbers, parameters and variables of loops
abbrev mutual
  pub made : Scope → Tree → Bool
  made s (Number p ds) = true
  made s (Named p n sel) = is_constant (find n s) && selects_made s sel
  made s (Bracketed p e) = made s e
  made s (Unary p op e) = made s e
  made s (Binary op l r) = made s l && made s r
  made s (Conditional c a b) = made s c && (made s a && made s b)
  made s (Concatenation p es) = all_made s es
  made s (Replication p c es) = made s c && all_made s es

  pub all_made : Scope → Trees → Bool
  all_made s none = true
  all_made s (more e es) = made s e && all_made s es

  pub selects_made : Scope → SelectsTree → Bool
  selects_made s Whole = true
  selects_made s (One sel) = select_made s sel
  selects_made s (OfWord p i sel) = made s i && select_made s sel

  pub select_made : Scope → SelectTree → Bool
  select_made s (Bit p i) = made s i
  select_made s (Part p l r) = made s l && made s r
  select_made s (IndexedPart p b n) = made s b && made s n

abbrev pub known_by : ℕ → List Digit → Option ℕ → Found (List Digit)
known_by p ds None = broken rule.NotConstant p
known_by p ds (Some n) = Sound ds

-- no digit is x or z
abbrev pub known : ℕ → List Digit → Found (List Digit)
known p ds = known_by p ds (number ds)

-- the width of a constant, its digits unseen; x is what was found in the expression
abbrev pub constant_width : Scope → Tree → Found ℕ → Found ℕ
constant_width s e x = settled (needs (made s e) rule.NotConstant (first_at e) x)

-- the value of a constant in a context of f w digits, where w is its own width
abbrev pub constant_in : (ℕ → ℕ) → Scope → Tree → Found ℕ → Found (List Digit)
constant_in f s e x = and_then (constant_width s e x) (λ w. known (first_at e) (meaning s e (f w) no_signals))

abbrev pub constant : Scope → Tree → Found ℕ → Found (List Digit)
constant s e x = constant_in (λ w. w) s e x

-- an index, by itself; where it is fixed, a constant
abbrev pub index : Bool → Scope → Tree → Found ℕ → Found (Unit {0})
index true s e x = each (λ ds. tt) (constant s e x)
index false s e x = each (λ w. tt) x

-- ---- widths (clause 5.4.1)

abbrev pub sized : ℕ → Found ℕ → Found ℕ
sized p x = and_then x (λ w. wants (nat_le w most_digits) rule.TooWide p (Sound w))

-- something stands in the braces, as it does in each text
abbrev pub filled : ℕ → Found ℕ → Found ℕ
filled p x = and_then x (λ w. needs (nat_lt 0 w) rule.BadRange p (Sound w))

-- indices that go with a range's direction; equal ones go with both (clause 5.2.1)
abbrev pub go_with : Bounds → ℕ → ℕ → Bool
go_with b i j = if is_falling b then nat_le j i else nat_le i j

abbrev pub narrow : ℕ → ℕ → Found ℕ
narrow p w = needs (nat_le w most_digits) rule.TooWide p (Sound w)

-- a count that is at least 1 (clause 5.1.14)
abbrev pub counted : ℕ → List Digit → Found ℕ
counted p ds = needs (nat_lt 0 (number_or (number ds))) rule.BadRange p (Sound (number_or (number ds)))

-- [ l : r ] of a range, with the places of its `[` and of the name
abbrev pub part_width : ℕ → ℕ → Bounds → ℕ → ℕ → Found ℕ
part_width p name b i j = needs (go_with b i j) rule.BadRange p (narrow name (span i j))

abbrev pub select_at : SelectTree → ℕ
select_at (Bit p i) = p
select_at (Part p l r) = p
select_at (IndexedPart p b n) = p

-- a name at p, by what its selects select from
abbrev pub by_nature : ℕ → Nature → (Bounds → Found ℕ) → (Bounds → Found ℕ) → Found ℕ
by_nature p Unknown vector memory = broken rule.UnknownName p
by_nature p NoConstant vector memory = broken rule.NotConstant p
by_nature p (Vector b) vector memory = vector b
by_nature p (Memory b) vector memory = memory b

abbrev mutual
  pub checked : Scope → Tree → Found ℕ
  checked s (Number p ds) = Sound (length ds)
  checked s (Named p n sel) = by_nature p (nature_of (find n s)) (λ b. of_vector false s p b sel) (λ b. of_memory false s p b sel)
  checked s (Bracketed p e) = sized p (checked s e)
  checked s (Unary p op e) = sized p (each (unary_width (unary_class op)) (checked s e))
  checked s (Binary op l r) = sized (first_at l) (each (λ x. binary_width (binary_class op) x.0 x.1) (both (checked s l) (checked s r)))
  checked s (Conditional c a b) = sized (first_at c) (each (λ x. max x.1.0 x.1.1) (both (checked s c) (both (checked s a) (checked s b))))
  checked s (Concatenation p es) = sized p (filled p (all_checked s es))
  checked s (Replication p c es) =
      sized p (each (λ x. x.0 * x.1) (both (and_then (constant s c (checked s c)) (counted (first_at c))) (filled p (all_checked s es))))

  -- the sum of the widths
  pub all_checked : Scope → Trees → Found ℕ
  all_checked s none = Sound 0
  all_checked s (more e es) = each (λ x. x.0 + x.1) (both (checked s e) (all_checked s es))

  -- the selects behind a name; where they are fixed, their indices are constants
  pub of_vector : Bool → Scope → ℕ → Bounds → SelectsTree → Found ℕ
  of_vector fixed s p b Whole = Sound (width_of b)
  of_vector fixed s p b (One sel) = part fixed s p b sel
  of_vector fixed s p b (OfWord q i sel) = and_then (index fixed s i (checked s i)) (λ u. broken rule.BadRange (select_at sel))

  pub of_memory : Bool → Scope → ℕ → Bounds → SelectsTree → Found ℕ
  of_memory fixed s p b Whole = broken rule.BadRange p
  of_memory fixed s p b (One sel) = word fixed s b sel
  of_memory fixed s p b (OfWord q i sel) = each (λ x. x.1) (followed (index fixed s i (checked s i)) (part fixed s p b sel))

  -- the index of a word
  pub word : Bool → Scope → Bounds → SelectTree → Found ℕ
  word fixed s b (Bit q i) = each (λ u. width_of b) (index fixed s i (checked s i))
  word fixed s b (Part q l r) = broken rule.BadRange q
  word fixed s b (IndexedPart q c n) = broken rule.BadRange q

  pub part : Bool → Scope → ℕ → Bounds → SelectTree → Found ℕ
  part fixed s p b (Bit q i) = each (λ u. 1) (index fixed s i (checked s i))
  part fixed s p b (Part q l r) =
      and_then (both (constant s l (checked s l)) (constant s r (checked s r))) (λ x. part_width q p b (number_or (number x.0)) (number_or (number x.1)))
  part fixed s p b (IndexedPart q c n) =
      each (λ x. x.1) (followed (index fixed s c (checked s c)) (and_then (constant s n (checked s n)) (λ ds. and_then (counted (first_at n) ds) (narrow p))))

-- the value of an expression that has to be a constant
abbrev pub constant_of : Scope → Tree → Found (List Digit)
constant_of s e = constant s e (checked s e)

-- the value that a constant gives to a register of so many digits
abbrev pub given_to : ℕ → Scope → Tree → Found (List Digit)
given_to w s e = constant_in (max w) s e (checked s e)
