-- A means of proof: each flow stands at the number of its task. It says nothing that a reader must trust.
use Rattle.std.specs.Prelude.{◌≡◌, ℕ, suc, ◌≤◌, List, [], ◌∷◌, length, Option, Some, None}
use Rattle.py_evaluate.specs.Attribute.Look.{View}
use Rattle.rig_model.specs.Task.Frame.{Task}
use Rattle.rig_model.specs.declared.task.task.Turned.{Turned}
use Rattle.await_tree.specs.declared.cause.Given.{Given}
use Rattle.run_state.specs.LiveTasks.Flows.{Meanings, IsLeftOf, PollsTo}
use Rattle.await_tree.specs.EndedTasks.Limits.{start_limit}
use Rattle.run_state.specs.LiveTasks.Tasks.{tasks_of}

-- from the number n on
abbrev pub ArePlaced : {F : Type 0} → (F → Task) → ℕ → List (Option F) → Type 0
ArePlaced task n [] = Unit {0}
ArePlaced task n (None ∷ flows) = ArePlaced task (suc n) flows
ArePlaced task n (Some flow ∷ flows) = ((task flow).number.0 ≡ n) × ArePlaced task (suc n) flows

pub record IsWhole {F : Type 0} (task : F → Task) (flows : List (Option F)) (count : ℕ) : Type 0 where
  pub placed : ArePlaced task 0 flows
  pub counted : count ≡ length (tasks_of task flows)
  pub limit : length flows ≤ start_limit

-- ---- one place, before and after

abbrev pub IfBoth : {F : Type 0} → Option F → Option F → (F → F → Type 0) → Type 0
IfBoth (Some flow) (Some rest) P = P flow rest
IfBoth _ _ P = ⊥

abbrev pub IsLeft : {F : Type 0} → Meanings F → Option F → Option F → Type 0
IsLeft m before after = IfBoth before after (IsLeftOf m)

abbrev pub Polls : {F : Type 0} → Meanings F → View → ℕ → Option F → Given → Turned → ℕ → Option F → Type 0
Polls m view fuel before given turned fuel' after = IfBoth before after (λ flow rest. PollsTo m view fuel flow given turned fuel' rest)
