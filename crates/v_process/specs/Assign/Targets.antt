-- A means of proof: what it means that a target was checked (IEEE 1364-2005, clauses 6.1 and 9.2), for the proofs of elaboration: the first
-- broken rule, its width, and the updates that it gets.
use Rattle.std.specs.Prelude.{◌≡◌, ℕ, ◌+◌, ◌*◌, ◌≤◌, max, List, length}
use Rattle.four_value.specs.declared.Digit.{Digit}
use Rattle.gpi.specs.Targets.{updates_of, IsSoundTarget}
use Rattle.gpi.specs.Targets as target
use Rattle.gpi.specs.Terms.{IsWidth}
use Rattle.v_syntax.specs.ExpressionTrees.{TargetTree, NamedTarget, JoinedTarget, TargetTrees, no_target, more_targets}
use Rattle.v_flat.specs.declared.scope.found.Found.{Found}
use Rattle.v_flat.specs.declared.scope.found.Found.TheVariants.{Sound}
use Rattle.v_flat.specs.Scope.Found.{each, both, Holds}
use Rattle.v_flat.specs.Scope.Limits.{counted_width}
use Rattle.v_flat.specs.Scope.Scope.{Scope, find}
use Rattle.v_flat.specs.Checks.{filled, sized}
use Rattle.v_flat.specs.Targets.{target_width, targets_width, target_checked, targets_checked, updates, all_updates}
use Rattle.v_check.specs.Constants.Checked.{IsNameOf, SelectsNamesOf}
use Rattle.v_process.specs.declared.target.checked.CheckedTarget.{CheckedTarget}
use Rattle.v_process.specs.Target.Targets.{depth}
use Rattle.v_process.specs.declared.assign.parts.TargetParts.{TargetParts}
use Rattle.v_process.specs.Assign.Braces.{widths, updates_in, AreSoundTargets, deepest}

-- ---- what a target names

-- each name in it is a signal of the design, with its width; ws are the widths of the signals
abbrev mutual
  pub TargetNamesOf : Scope → TargetTree → List ℕ → Type 0
  TargetNamesOf s (NamedTarget p n sel) ws = IsNameOf (find n s) ws × SelectsNamesOf s sel ws
  TargetNamesOf s (JoinedTarget p ts) ws = TargetsNamesOf s ts ws

  pub TargetsNamesOf : Scope → TargetTrees → List ℕ → Type 0
  TargetsNamesOf s no_target ws = Unit {0}
  TargetsNamesOf s (more_targets t ts) ws = TargetNamesOf s t ws × TargetsNamesOf s ts ws

-- how many braces stand inside of one another
abbrev mutual
  pub braces : TargetTree → ℕ
  braces (NamedTarget p n sel) = 0
  braces (JoinedTarget p ts) = 1 + all_braces ts

  pub all_braces : TargetTrees → ℕ
  all_braces no_target = 0
  all_braces (more_targets t ts) = max (braces t) (all_braces ts)

-- ---- what was found

-- the same updates by digits of its width, on every map of the signals; sound wherever the names are signals of the design; and no deeper
-- than its braces ask for, where each pair has at most 128 = 2 ^ 7 digits
pub record GetsAs (s : Scope) (t : TargetTree) (c : CheckedTarget) : Type 0 where
  pub proper : IsWidth c.width
  pub own : target_width s t ≡ c.width
  pub width_is : target.target_width c.target ≡ c.width
  pub gets : (m : ℕ → List Digit) (ds : List Digit) → length ds ≡ c.width → updates_of c.target m ds ≡ updates s t m ds
  pub sound : (ws : List ℕ) → TargetNamesOf s t ws → IsSoundTarget c.target ws
  pub balanced : depth c.target ≤ 7 * braces t

-- the same rule is broken first as in what the definition finds, which is a, with the same width, where all beyond 128 are one; and where
-- none is, it gets the same updates
pub record IsTarget (s : Scope) (t : TargetTree) (a : Found ℕ) (f : Found CheckedTarget) : Type 0 where
  pub finds : each (λ (c : CheckedTarget). c.width) f ≡ each counted_width a
  pub holds : Holds (λ (c : CheckedTarget). GetsAs s t c) f

-- the parts of braces, together
pub record GetAsAll (s : Scope) (ts : TargetTrees) (x : TargetParts) : Type 0 where
  pub own : x.width ≡ counted_width (targets_width s ts)
  pub sum : widths x.targets.items ≡ targets_width s ts
  pub gets : (m : ℕ → List Digit) (ds : List Digit) → length ds ≡ targets_width s ts
      → updates_in x.targets.items m ds ≡ all_updates s ts m ds
  pub sound : (ws : List ℕ) → TargetsNamesOf s ts ws → AreSoundTargets x.targets.items ws
  pub few : length x.targets.items ≤ targets_width s ts
  pub balanced : deepest x.targets.items ≤ 7 * all_braces ts

pub record AreTargets (s : Scope) (ts : TargetTrees) (a : Found ℕ) (f : Found TargetParts) : Type 0 where
  pub finds : each (λ (x : TargetParts). x.width) f ≡ each counted_width a
  pub holds : Holds (λ (x : TargetParts). GetAsAll s ts x) f

-- ---- what is found in the whole, from what was found in the parts

abbrev pub ChecksNoTarget : Found TargetParts → Type 0
ChecksNoTarget f = (s : Scope) → AreTargets s no_target (Sound 0) f

abbrev pub ChecksMoreTargets : Found CheckedTarget → Found TargetParts → Found TargetParts → Type 0
ChecksMoreTargets x y f =
    (s : Scope) (t : TargetTree) (ts : TargetTrees) (a b : Found ℕ) → IsTarget s t a x → AreTargets s ts b y
    → AreTargets s (more_targets t ts) (each (λ (p : ℕ × ℕ). p.0 + p.1) (both a b)) f

abbrev pub ChecksBraces : ℕ → Found TargetParts → Found CheckedTarget → Type 0
ChecksBraces p y f = (s : Scope) (ts : TargetTrees) (b : Found ℕ) → AreTargets s ts b y → IsTarget s (JoinedTarget p ts) (sized p (filled p b)) f

-- ---- targets of procedures

abbrev pub IsProcedural : Scope → TargetTree → Found CheckedTarget → Type 0
IsProcedural s t f = IsTarget s t (target_checked s t) f

abbrev pub AreProcedural : Scope → TargetTrees → Found TargetParts → Type 0
AreProcedural s ts f = AreTargets s ts (targets_checked s ts) f
