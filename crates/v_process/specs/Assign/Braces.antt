-- A means of proof: many targets together (IEEE 1364-2005, annex A.8.5), the lowest part first, for the proofs of elaboration.
use Rattle.std.specs.Prelude.{◌≡◌, ℕ, ◌+◌, ◌^◌, ◌≤◌, max, List, [], ◌∷◌, ◌++◌, length}
use Rattle.four_value.specs.declared.Digit.{Digit}
use Rattle.four_value.specs.Limits.{most_digits}
use Rattle.four_value.specs.Vector.{slice}
use Rattle.gpi.specs.declared.types.Update.{Update}
use Rattle.gpi.specs.declared.targets.Target.{Target}
use Rattle.gpi.specs.Targets.{target_width, updates_of, IsSoundTarget}
use Rattle.v_process.specs.Target.Targets.{depth}

abbrev pub widths : List Target → ℕ
widths [] = 0
widths (t ∷ ts) = target_width t + widths ts

-- from the highest part to the lowest; all indices are those on one map
abbrev pub updates_in : List Target → (ℕ → List Digit) → List Digit → List Update
updates_in [] m ds = []
updates_in (t ∷ ts) m ds = updates_in ts m (slice ds (target_width t) (widths ts)) ++ updates_of t m (slice ds 0 (target_width t))

abbrev pub AreSoundTargets : List Target → List ℕ → Type 0
AreSoundTargets [] ws = Unit {0}
AreSoundTargets (t ∷ ts) ws = IsSoundTarget t ws × AreSoundTargets ts ws

abbrev pub deepest : List Target → ℕ
deepest [] = 0
deepest (t ∷ ts) = max (depth t) (deepest ts)

-- t gets the updates of all, by as many digits as they have together; and it is balanced
pub record MakesAll (ts : List Target) (t : Target) : Type 0 where
  pub width_is : target_width t ≡ widths ts
  pub gets : (m : ℕ → List Digit) (ds : List Digit) → length ds ≡ widths ts → updates_of t m ds ≡ updates_in ts m ds
  pub sound : (ws : List ℕ) → AreSoundTargets ts ws → widths ts ≤ most_digits → IsSoundTarget t ws
  pub balanced : (k : ℕ) → length ts ≤ 2 ^ k → depth t ≤ deepest ts + k
