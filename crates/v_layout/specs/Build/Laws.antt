-- A means of proof: a law of what is built, for the proofs of elaboration.
use Rattle.std.specs.Prelude.{◌≡◌, ◌≤◌, ℕ, List, Option, Ok}
use Rattle.gpi.specs.declared.design.Flat.{Flat}
use Rattle.gpi.specs.Soundness.{IsSoundFlat}
use Rattle.v_flat.specs.Design.{Design, Modules, StandsFor, flat_design}
use Rattle.v_layout.specs.Build.Parts.{IsFlatOf, IsSoFar}
use Rattle.v_layout.specs.declared.build.parts.Parts.{Parts}

-- a flat design of all parts of a text's design is sound, and stands for that design
abbrev pub What_is_built_is_sound : Type 0
What_is_built_is_sound = (ms : Modules) (top : Option (List ℕ)) (d : Design) (p : Parts) (step : ℕ) (f : Flat) → flat_design ms top ≡ Ok d → IsSoFar d p → IsFlatOf p step f
    → 1 ≤ step → IsSoundFlat f × StandsFor f d step
