-- A means of proof: what it means that an expression was checked, for the proofs of elaboration: the first broken rule, its width, and what
-- it is in each context.
use Rattle.std.specs.Prelude.{◌≡◌, ℕ, ◌<◌, List, length, Option, None, Some, nat_le, slice_index}
use Rattle.four_value.specs.declared.Digit.{Digit}
use Rattle.gpi.specs.Terms.{AreWords, IsWidth}
use Rattle.v_syntax.specs.declared.expression.UnaryOperator.{UnaryOperator}
use Rattle.v_syntax.specs.declared.expression.BinaryOperator.{BinaryOperator}
use Rattle.v_syntax.specs.ExpressionTrees.{Tree, Number, Named, Bracketed, Unary, Binary, Conditional, Concatenation, Replication, SelectsTree, Whole, One, OfWord, SelectTree, Bit, Part, IndexedPart, Trees, none, more, first_at}
use Rattle.v_flat.specs.declared.scope.rule.ElabRule.TheVariants as rule
use Rattle.v_flat.specs.declared.scope.found.Found.{Found}
use Rattle.v_flat.specs.declared.scope.found.Found.TheVariants.{Sound}
use Rattle.v_flat.specs.Scope.Found.{each, and_then, wants, Holds}
use Rattle.v_flat.specs.Scope.Limits.{counted_width, most_digits}
use Rattle.v_flat.specs.declared.scope.meaning.Bounds.{Bounds}
use Rattle.v_flat.specs.declared.scope.meaning.DataObject.{DataObject}
use Rattle.v_flat.specs.declared.scope.meaning.Meaning.{Meaning}
use Rattle.v_flat.specs.declared.scope.meaning.Meaning.TheVariants.{Constant, Object, Later}
use Rattle.v_flat.specs.Scope.Scope.{Scope, find, width_of}
use Rattle.v_check.specs.Contextual.Contexts.{value_in, IsSound}
use Rattle.v_flat.specs.Objects.{words_of}
use Rattle.v_flat.specs.Expressions.{width, meaning}
use Rattle.v_flat.specs.Checks.{checked, constant_of, counted}
use Rattle.v_check.specs.declared.constants.checked.Checked.{Checked}

-- ---- the signals that an expression names; ws are the widths of the signals of a design

abbrev pub IsObjectOf : DataObject → Option Bounds → List ℕ → Type 0
IsObjectOf o None ws = (o.first < length ws) × (slice_index ws o.first ≡ width_of o.bounds)
IsObjectOf o (Some w) ws = AreWords (words_of o.first w) (width_of o.bounds) ws

abbrev pub IsNameOf : Option Meaning → List ℕ → Type 0
IsNameOf None ws = Unit {0}
IsNameOf (Some Later) ws = Unit {0}
IsNameOf (Some (Constant ds b)) ws = Unit {0}
IsNameOf (Some (Object o)) ws = IsObjectOf o o.words ws

-- each of them is a signal of the design, with its width
abbrev mutual
  pub AreNamesOf : Scope → Tree → List ℕ → Type 0
  AreNamesOf s (Number p ds) ws = Unit {0}
  AreNamesOf s (Named p n sel) ws = IsNameOf (find n s) ws × SelectsNamesOf s sel ws
  AreNamesOf s (Bracketed p e) ws = AreNamesOf s e ws
  AreNamesOf s (Unary p op e) ws = AreNamesOf s e ws
  AreNamesOf s (Binary op l r) ws = AreNamesOf s l ws × AreNamesOf s r ws
  AreNamesOf s (Conditional c a b) ws = AreNamesOf s c ws × (AreNamesOf s a ws × AreNamesOf s b ws)
  AreNamesOf s (Concatenation p es) ws = AllNamesOf s es ws
  AreNamesOf s (Replication p c es) ws = AreNamesOf s c ws × AllNamesOf s es ws

  pub AllNamesOf : Scope → Trees → List ℕ → Type 0
  AllNamesOf s none ws = Unit {0}
  AllNamesOf s (more e es) ws = AreNamesOf s e ws × AllNamesOf s es ws

  pub SelectsNamesOf : Scope → SelectsTree → List ℕ → Type 0
  SelectsNamesOf s Whole ws = Unit {0}
  SelectsNamesOf s (One sel) ws = SelectNamesOf s sel ws
  SelectsNamesOf s (OfWord p i sel) ws = AreNamesOf s i ws × SelectNamesOf s sel ws

  pub SelectNamesOf : Scope → SelectTree → List ℕ → Type 0
  SelectNamesOf s (Bit p i) ws = AreNamesOf s i ws
  SelectNamesOf s (Part p l r) ws = AreNamesOf s l ws × AreNamesOf s r ws
  SelectNamesOf s (IndexedPart p b n) ws = AreNamesOf s b ws × AreNamesOf s n ws

-- ---- what stands for an expression

-- in each context, on every map of the signals; and its term is sound wherever the names are signals of the design
pub record StandsFor (s : Scope) (e : Tree) (c : Checked) : Type 0 where
  pub proper : IsWidth c.width
  pub own : width s e ≡ c.width
  pub means : (w : ℕ) (m : ℕ → List Digit) → value_in c.form w m ≡ meaning s e w m
  pub sound : (ws : List ℕ) → AreNamesOf s e ws → IsSound c.form ws

-- the same rule is broken first as in the definition, with the same width; and where none is it stands for the expression
pub record IsChecked (s : Scope) (e : Tree) (f : Found Checked) : Type 0 where
  pub finds : each (λ (c : Checked). c.width) f ≡ each counted_width (checked s e)
  pub holds : Holds (λ (c : Checked). StandsFor s e c) f

-- n is what a count is found to be: that of a replication, or the width of an indexed part-select
abbrev pub IsCount : Scope → Tree → Found ℕ → Type 0
IsCount s e n = n ≡ each counted_width (and_then (constant_of s e) (counted (first_at e)))

-- ---- what is found in the whole, from what was found in the parts

-- TooWide is broken too, where there are more digits than a vector may have
abbrev pub sized_at : ℕ → Found Checked → Found Checked
sized_at p f = and_then f (λ c. wants (nat_le c.width most_digits) rule.TooWide p (Sound c))

abbrev pub ChecksNumber : List Digit → Found Checked → Type 0
ChecksNumber ds f = (s : Scope) (p : ℕ) → IsChecked s (Number p ds) f

abbrev pub ChecksBracketed : ℕ → Found Checked → Found Checked → Type 0
ChecksBracketed p x f = (s : Scope) (e : Tree) → IsChecked s e x → IsChecked s (Bracketed p e) f

abbrev pub ChecksUnary : ℕ → UnaryOperator → Found Checked → Found Checked → Type 0
ChecksUnary p op x f = (s : Scope) (e : Tree) → IsChecked s e x → IsChecked s (Unary p op e) f

abbrev pub ChecksBinary : ℕ → BinaryOperator → Found Checked → Found Checked → Found Checked → Type 0
ChecksBinary p op x y f = (s : Scope) (l r : Tree) → first_at l ≡ p → IsChecked s l x → IsChecked s r y → IsChecked s (Binary op l r) f

abbrev pub ChecksConditional : ℕ → Found Checked → Found Checked → Found Checked → Found Checked → Type 0
ChecksConditional p x y z f =
    (s : Scope) (c a b : Tree) → first_at c ≡ p → IsChecked s c x → IsChecked s a y → IsChecked s b z → IsChecked s (Conditional c a b) f
