-- A means of proof: the times at which a run writes its lines.
use Rattle.std.specs.Prelude.{◌≡◌, ◌⊎◌, ◌<◌, ◌≤◌, ◌^◌, ℕ, List, [], ◌∷◌}
use Rattle.test_meaning.specs.Body.BodyTrees.{Case}
use Rattle.rig_model.specs.Run.Line.{timed_line}
use Rattle.rig_model.specs.Run.Rig.{Setup}
use Rattle.rig_model.specs.Run.Run.{Run, written}
use Rattle.run_laws.specs.Places.Reached.{IsReached}

-- the line begins with this time
abbrev pub IsLineAt : ℕ → List ℕ → Type 0
IsLineAt time text = (rest : List ℕ) × (text ≡ timed_line time rest)

-- the line begins with no time of 64 bits
abbrev pub IsUntimed : List ℕ → Type 0
IsUntimed text = (time : ℕ) → time < 2 ^ 64 → IsLineAt time text → ⊥

-- No line begins with a time before the first of these, or before that of a line in front of it, or after the last.
abbrev pub RiseTo : ℕ → List (List ℕ) → ℕ → Type 0
RiseTo first [] last = first ≤ last
RiseTo first (text ∷ texts) last =
    ((time : ℕ) × IsLineAt time text × (first ≤ time) × RiseTo time texts last) ⊎ (IsUntimed text × RiseTo first texts last)

-- What a run has written wherever it comes is in order of time, up to the time at which it stands.
abbrev pub Lines_rise : Type 0
Lines_rise = (setup : Setup) (seed : ℕ) (cases : List Case) (budget : ℕ) (run : Run) → IsReached setup seed cases run
    → RiseTo 0 (written setup budget run) run.rig.sim.time
