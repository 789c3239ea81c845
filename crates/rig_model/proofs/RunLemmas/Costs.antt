-- What a step costs, and what a run does.
use Rattle.std.proofs.Common.{◌≡◌, ℕ, zero, suc, ◌+◌, ◌≤◌, Bool, true, false, List, [], ◌∷◌, Option, None, Some, refl, arith, rules}
use Rattle.std.specs.Prelude.{nat_le, not, ◌&&◌}
use Rattle.gpi.specs.Events.{Event}
use Rattle.test_meaning.specs.Body.BodyTrees.{Case}
use Rattle.rig_model.specs.Task.Frame.{Task}
use Rattle.rig_model.proofs.TaskLemmas.Bounds.{cost_at_most_one}
use Rattle.await_tree.specs.declared.wait_list.ready.Entry.{Entry}
use Rattle.rig_model.specs.declared.run.outcome.Outcome.{Outcome}
use Rattle.rig_model.specs.Run.Rig.{Running, Rig, Setup, event_of}
use Rattle.rig_model.specs.Run.Step.{task_at, taken, chosen, stepped, after_event, resumed}
use Rattle.rig_model.specs.Run.Verdict.{reason_of}
use Rattle.rig_model.specs.Run.Run.{Place, Begins, Runs, Waits, Over, is_over, Run, unskipped, skipped, with_skips, begun, planned, judged, step, step_at, step_in, cost_at, cost_in, step_cost, goes, steps, opening, IsRun}

stepped_cost : (setup : Setup) (r : Running) (o : Option Task) (c : Rig) → (stepped setup r o c).cost ≤ 1
stepped_cost setup r None c = omega arith
stepped_cost setup r (Some task) c = cost_at_most_one task r.given

event_cost : (setup : Setup) (e : Option Event) (c : Rig) → (after_event setup e c).cost ≤ 1
event_cost setup None c = omega arith
event_cost setup (Some e) c = omega arith

chosen_cost : (setup : Setup) (running : Option Running) (ready : List Entry) (c : Rig) → (chosen setup running ready c).cost ≤ 1
chosen_cost setup (Some r) ready c = stepped_cost setup r (task_at r.task c.tasks) c
chosen_cost setup None (e ∷ es) c = stepped_cost setup (taken c e) (task_at e.task c.tasks) (resumed e es c)
chosen_cost setup None [] c = event_cost setup (event_of setup c) c

in_cost : (setup : Setup) (o : Option Outcome) (c : Run) → cost_in setup o c ≤ 1
in_cost setup (Some outcome) c = omega arith
in_cost setup None c = chosen_cost setup c.rig.running c.rig.ready c.rig

at_cost : (setup : Setup) (p : Place) (c : Run) → cost_at setup p c ≤ 1
at_cost setup Over c = omega arith
at_cost setup (Begins cases) c = omega arith
at_cost setup (Runs case cases) c = in_cost setup c.rig.outcome c
at_cost setup (Waits cases) c = chosen_cost setup c.rig.running c.rig.ready c.rig

-- a step costs 1 or nothing
pub step_cost_least : (setup : Setup) (c : Run) → step_cost setup c ≤ 1
step_cost_least setup c = at_cost setup c.place c

begun_adds : (setup : Setup) (cases : List Case) (c : Run) → (begun setup cases c).cost ≡ c.cost
begun_adds setup [] c = refl
begun_adds setup (case ∷ cases) c = refl

planned_adds : (cases : List Case) (c : Run) → (planned cases c).cost ≡ c.cost
planned_adds [] c = refl
planned_adds (case ∷ cases) c = refl

in_adds : (setup : Setup) (case : Case) (cases : List Case) (o : Option Outcome) (c : Run) → (step_in setup case cases o c).cost ≡ c.cost + cost_in setup o c
in_adds setup case cases (Some outcome) c = omega (arith, planned_adds (unskipped cases) (with_skips (skipped cases) (judged (reason_of setup.flat case outcome) case c)))
in_adds setup case cases None c = refl

at_adds : (setup : Setup) (p : Place) (c : Run) → (step_at setup p c).cost ≡ c.cost + cost_at setup p c
at_adds setup Over c = omega arith
at_adds setup (Begins cases) c = omega (arith, begun_adds setup (unskipped cases) (with_skips (skipped cases) c))
at_adds setup (Runs case cases) c = in_adds setup case cases c.rig.outcome c
at_adds setup (Waits cases) c = refl

and_second : (a b : Bool) → (a && b) ≡ true → b ≡ true
and_second true b h = h
and_second false b h = cc

fits : (a b : ℕ) → nat_le a b ≡ true → a ≤ b
fits a b h = search rules

module _ (setup : Setup) (budget : ℕ) where
  steps_within : (n : ℕ) (c : Run) → c.cost ≤ budget → (steps setup budget n c).cost ≤ budget
  unfolding steps
  steps_within zero c h = h
  steps_within (suc n) c h = decided (goes setup budget c) refl (λ k. steps_within n (step setup c) k)
    where
      decided : (b : Bool) → goes setup budget c ≡ b → ((step setup c).cost ≤ budget → (steps setup budget n (step setup c)).cost ≤ budget)
          → (steps setup budget (suc n) c).cost ≤ budget
      decided true g more =
          let fit : c.cost + step_cost setup c ≤ budget = fits (c.cost + step_cost setup c) budget (and_second (not (is_over c.place)) (nat_le (c.cost + step_cost setup c) budget) g) in
          let is : (step setup c).cost ≡ c.cost + step_cost setup c = at_adds setup c.place c in
          rw g (more (omega arith))
      decided false g more = rw g h

-- what a run costs is within its budget
pub run_within : (setup : Setup) (seed : ℕ) (cases : List Case) (budget : ℕ) (c : Run) → IsRun setup seed cases budget c → c.cost ≤ budget
run_within setup seed cases budget c r = rw r.reached (steps_within setup budget r.count (opening setup seed cases) (omega arith))
