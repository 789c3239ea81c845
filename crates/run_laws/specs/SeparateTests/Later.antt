-- A means of proof: what a run adds on its way from one configuration to a later one, for the law of separate tests.
use Rattle.std.specs.Prelude.{◌≡◌, ℕ, ◌+◌, nat_le, Bool, not, ◌&&◌, List, [], ◌∷◌, ◌++◌}
use Rattle.gpi.specs.declared.types.Counts.{Counts}
use Rattle.rig_model.specs.Run.Rig.{Rig, Setup}
use Rattle.rig_model.specs.Run.Run.{Place, Begins, Runs, Waits, Over, Run, is_over, step_cost}
use Rattle.rig_model.specs.Run.Verdict.{report_of}
use Rattle.rig_model.specs.declared.run.outcome.Verdict.{Verdict}

-- ---- configurations

-- with these numbers of registered, removed and fired keys
abbrev pub with_counts : Counts → Rig → Rig
with_counts counts c = record c { counts = counts }

-- the configurations are the same but for how many keys were registered, removed and fired
abbrev pub SameButCounts : Rig → Rig → Type 0
SameButCounts c d = d ≡ with_counts d.counts c

-- ---- lines, verdicts and cost

-- the closing line, at the place where all is over
abbrev pub closing_at : Place → Run → List (List ℕ)
closing_at (Begins left) c = []
closing_at (Runs case left) c = []
closing_at (Waits left) c = []
closing_at Over c = report_of c.verdicts c.rig.sim.time ∷ []

-- the closing line of a run that is over, and no line of another: it counts the verdicts of all tests, and tells the time
abbrev pub closing : Run → List (List ℕ)
closing c = closing_at c.place c

-- From the first configuration to the second the run added these lines and verdicts at this cost; its closing line isn't counted among the lines.
pub record Adds (lines : List (List ℕ)) (verdicts : List Verdict) (cost : ℕ) (c c' : Run) : Type 0 where
  pub lines_are : c'.lines ≡ c.lines ++ (lines ++ closing c')
  pub verdicts_are : c'.verdicts ≡ c.verdicts ++ verdicts
  pub cost_is : c'.cost ≡ c.cost + cost

-- Two runs, which stood at c and at d and now stand at c' and at d', added the same lines and verdicts at the same cost, and stand at the same place, in
-- configurations that are the same but for the counts.
pub record AddTheSame (c d c' d' : Run) : Type 0 where
  pub lines : List (List ℕ)
  pub verdicts : List Verdict
  pub cost : ℕ
  pub one : Adds lines verdicts cost c c'
  pub other : Adds lines verdicts cost d d'
  pub place : d'.place ≡ c'.place
  pub rigs : SameButCounts c'.rig d'.rig

-- ---- the budget

-- the run isn't over, and its next step doesn't fit what is left of the budget
abbrev pub meets_budget : Setup → ℕ → Run → Bool
meets_budget setup budget c = not (is_over c.place) && not (nat_le (c.cost + step_cost setup c) budget)
