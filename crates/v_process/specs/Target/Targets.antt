-- A means of proof: what it means that the name in a target was found (IEEE 1364-2005, clauses 6.1 and 9.2), for the proofs of elaboration:
-- the first broken rule, its width, and the updates that it gets.
use Rattle.std.specs.Prelude.{◌≡◌, ℕ, ◌+◌, max, List, [], length, Option}
use Rattle.four_value.specs.declared.Digit.{Digit}
use Rattle.gpi.specs.declared.targets.Target.{Target}
use Rattle.gpi.specs.declared.targets.Target.TheVariants.{Whole, Select, Join'}
use Rattle.gpi.specs.Targets.{target_width, updates_of, IsSoundTarget}
use Rattle.gpi.specs.Terms.{IsWidth}
use Rattle.v_syntax.specs.ExpressionTrees.{SelectsTree}
use Rattle.v_flat.specs.declared.scope.found.Found.{Found}
use Rattle.v_flat.specs.Scope.Found.{each, Holds}
use Rattle.v_flat.specs.declared.scope.meaning.Meaning.{Meaning}
use Rattle.v_flat.specs.Scope.Limits.{counted_width}
use Rattle.v_flat.specs.Scope.Scope.{Scope, find}
use Rattle.v_flat.specs.Expressions.{named_width}
use Rattle.v_flat.specs.declared.manner.Manner.{Manner}
use Rattle.v_flat.specs.Targets.{named_target, name_update, is_fixed}
use Rattle.v_check.specs.Constants.Checked.{IsNameOf, SelectsNamesOf}
use Rattle.v_check.specs.declared.names.selects.CheckedSelects.{CheckedSelects}
use Rattle.v_check.specs.Names.Selects.{AreSelects}
use Rattle.v_process.specs.declared.target.checked.CheckedTarget.{CheckedTarget}
use Rattle.v_process.specs.Target.Digits.{IsFixedTarget, DrivesAs}

-- the steps from a target down to its deepest part
abbrev pub depth : Target → ℕ
depth (Whole o) = 0
depth (Select o range i w) = 0
depth (Join' p a q b) = 1 + max (depth a) (depth b)

-- a name with selects, whose meaning is x: it gets the same updates by digits of its width, on every map of the signals, is sound wherever
-- the names are signals of the design, and has no parts; where its selects name no signal, neither does the index of the select or of the
-- whole word that it is, and its digits are those that the selects choose
pub record GetsAsName (s : Scope) (sel : SelectsTree) (x : Option Meaning) (c : CheckedTarget) : Type 0 where
  pub proper : IsWidth c.width
  pub own : named_width s sel x ≡ c.width
  pub width_is : target_width c.target ≡ c.width
  pub gets : (m : ℕ → List Digit) (ds : List Digit) → length ds ≡ c.width → updates_of c.target m ds ≡ name_update x s sel m ds
  pub sound : (ws : List ℕ) → IsNameOf x ws → SelectsNamesOf s sel ws → IsSoundTarget c.target ws
  pub depth_is : depth c.target ≡ 0
  pub fixed : SelectsNamesOf s sel [] → IsFixedTarget c.target
  pub drives : DrivesAs s sel x c.target

-- the same rule is broken first as in the definition, with the same width, where all beyond 128 are one; and where none is, it gets the
-- same updates
pub record IsNamedTarget (how : Manner) (s : Scope) (p : ℕ) (sel : SelectsTree) (x : Option Meaning)
    (f : Found CheckedTarget) : Type 0 where
  pub finds : each (λ (c : CheckedTarget). c.width) f ≡ each counted_width (named_target how s p sel x)
  pub holds : Holds (λ (c : CheckedTarget). GetsAsName s sel x c) f

-- p is the place of the name n
abbrev pub ChecksTargetName : Manner → Scope → List ℕ → ℕ → CheckedSelects → Found CheckedTarget → Type 0
ChecksTargetName how s n p y f = (sel : SelectsTree) → AreSelects (is_fixed how) s sel y → IsNamedTarget how s p sel (find n s) f
