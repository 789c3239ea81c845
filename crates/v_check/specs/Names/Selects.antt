-- A means of proof: what it means that the selects behind a name were checked (IEEE 1364-2005, clause 5.2), and what is found in the whole,
-- for the proofs of elaboration.
use Rattle.std.specs.Prelude.{◌≡◌, ℕ, List, Bool, true, false}
use Rattle.four_value.specs.declared.Digit.{Digit}
use Rattle.four_value.specs.Vector.{number}
use Rattle.gpi.specs.declared.terms.Term.{Term}
use Rattle.gpi.specs.Terms.{value, IsSound, IsWidth}
use Rattle.v_syntax.specs.ExpressionTrees.{Tree, Named, SelectsTree, Whole, One, OfWord, SelectTree, Bit, Part, IndexedPart}
use Rattle.v_flat.specs.declared.scope.rule.ElabRule.TheVariants as rule
use Rattle.v_flat.specs.declared.scope.found.Found.{Found}
use Rattle.v_flat.specs.Scope.Found.{each, and_then, broken, Holds}
use Rattle.v_flat.specs.declared.scope.meaning.Bounds.{Bounds}
use Rattle.v_flat.specs.Scope.Limits.{counted_width}
use Rattle.v_flat.specs.Scope.Scope.{Scope}
use Rattle.v_flat.specs.Expressions.{own_value, select_base, select_width}
use Rattle.v_flat.specs.Checks.{checked, index, constant_of, part}
use Rattle.v_check.specs.declared.constants.checked.Checked.{Checked}
use Rattle.v_check.specs.Constants.Checked.{AreNamesOf, SelectNamesOf, IsChecked, IsCount}
use Rattle.v_check.specs.declared.names.choice.Choice.{Choice}
use Rattle.v_check.specs.declared.names.selects.CheckedSelect.{CheckedSelect}
use Rattle.v_check.specs.declared.names.selects.CheckedSelect.TheVariants as code
use Rattle.v_check.specs.declared.names.selects.CheckedSelects.{CheckedSelects}
use Rattle.v_check.specs.declared.names.selects.CheckedSelects.TheVariants as code_selects

-- a term has the value of an expression by itself
pub record StandsAlone (s : Scope) (e : Tree) (t : Term) : Type 0 where
  pub means : (m : ℕ → List Digit) → value t m ≡ own_value s e m
  pub sound : (ws : List ℕ) → AreNamesOf s e ws → IsSound t ws

-- an index, which has to be a constant where it is fixed: the same rule is broken first as in the definition; and where none is,
-- the term has its value by itself
pub record IsIndex (fixed : Bool) (s : Scope) (e : Tree) (f : Found Term) : Type 0 where
  pub finds : each (λ (t : Term). tt) f ≡ index fixed s e (checked s e)
  pub holds : Holds (λ (t : Term). StandsAlone s e t) f

abbrev pub ChecksIndex : Found Checked → Found Term → Type 0
ChecksIndex x f = (s : Scope) (e : Tree) → IsChecked s e x → IsIndex false s e f

abbrev pub ChecksFixedIndex : Found (List Digit) → Found Term → Type 0
ChecksFixedIndex x f = (s : Scope) (e : Tree) → x ≡ constant_of s e → IsIndex true s e f

-- each expression in it was checked, and each that has to be a constant was evaluated; indices are where the select is fixed
abbrev pub IsSelect : Bool → Scope → SelectTree → CheckedSelect → Type 0
IsSelect fixed s (Bit p i) (code.Bit q x) = (p ≡ q) × IsIndex fixed s i x
IsSelect fixed s (Part p l r) (code.Part q x y) = (p ≡ q) × ((x ≡ constant_of s l) × (y ≡ constant_of s r))
IsSelect fixed s (IndexedPart p b n) (code.IndexedPart q x w) = (p ≡ q) × (IsIndex fixed s b x × IsCount s n w)
IsSelect fixed s _ _ = ⊥

abbrev pub AreSelects : Bool → Scope → SelectsTree → CheckedSelects → Type 0
AreSelects fixed s Whole code_selects.Whole = Unit {0}
AreSelects fixed s (One sel) (code_selects.One x) = IsSelect fixed s sel x
AreSelects fixed s (OfWord p i sel) (code_selects.OfWord f x) = IsIndex fixed s i f × IsSelect fixed s sel x
AreSelects fixed s _ _ = ⊥

abbrev pub place_of : CheckedSelect → ℕ
place_of (code.Bit q x) = q
place_of (code.Part q x y) = q
place_of (code.IndexedPart q x w) = q

-- ---- what a select chooses

-- the least index, and so many digits
pub record Chooses (s : Scope) (sel : SelectTree) (x : Choice) : Type 0 where
  pub proper : IsWidth x.width
  pub own : select_width s sel ≡ x.width
  pub base : (m : ℕ → List Digit) → number (value x.index m) ≡ select_base s sel m
  pub sound : (ws : List ℕ) → SelectNamesOf s sel ws → IsSound x.index ws

-- p is the place of the name, and b the range that is selected from; indices are constants where the select is fixed. The same rule is
-- broken first as in the definition, with the same width; and where none is, the digits are chosen that the definition chooses
pub record IsChosen (fixed : Bool) (s : Scope) (p : ℕ) (b : Bounds) (sel : SelectTree) (f : Found Choice) : Type 0 where
  pub finds : each (λ (x : Choice). x.width) f ≡ each counted_width (part fixed s p b sel)
  pub holds : Holds (λ (x : Choice). Chooses s sel x) f

abbrev pub ChecksChoice : ℕ → Bounds → CheckedSelect → Found Choice → Type 0
ChecksChoice p b x f = (fixed : Bool) (s : Scope) (sel : SelectTree) → IsSelect fixed s sel x → IsChosen fixed s p b sel f

-- two selects on what is no memory: what is broken in the first, or else BadRange at the second
abbrev pub twice_at : {A B : Type 0} → Found A → ℕ → Found B
twice_at {A} x p = and_then {A = Unit {0}} (each {B = Unit {0}} (λ (a : A). tt) x) (λ (u : Unit {0}). broken rule.BadRange p)

-- ---- what is found in a name

abbrev pub ChecksName : Scope → List ℕ → ℕ → CheckedSelects → Found Checked → Type 0
ChecksName s n p x f = (sel : SelectsTree) → AreSelects false s sel x → IsChecked s (Named p n sel) f
