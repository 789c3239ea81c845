-- A means of proof: the live tasks of a test, as flows by the numbers of their tasks, for the proofs of the runner: nothing stands for a
-- task that lives no more.
use Rattle.std.specs.Prelude.{◌≡◌, ℕ, ◌==◌, Bool, not, List, [], ◌∷◌, filter, Option, Some, None, slice_set, if◌then◌else◌}
use Rattle.py_evaluate.specs.Attribute.Look.{View}
use Rattle.py_value.specs.declared.trigger.TaskNo.{TaskNo}
use Rattle.test_meaning.specs.Body.BodyTrees.{Function}
use Rattle.rig_model.specs.Task.Frame.{Task}
use Rattle.rig_model.specs.declared.task.task.Turned.{Turned}
use Rattle.await_tree.specs.declared.cause.Given.{Given}
pub use Rattle.run_state.specs.LiveTasks.Flows.{Meanings, meanings, flow_at, IsLeftOf, PollsTo, IsKnown}
pub use Rattle.await_tree.specs.EndedTasks.Limits.{start_limit}

-- the live tasks, by rising number
abbrev pub tasks_of : {F : Type 0} → (F → Task) → List (Option F) → List Task
tasks_of task [] = []
tasks_of task (None ∷ flows) = tasks_of task flows
tasks_of task (Some flow ∷ flows) = task flow ∷ tasks_of task flows

-- each of them is of this file
abbrev pub AreOf : {F : Type 0} → (F → List Function) → List Function → List (Option F) → Type 0
AreOf functions file [] = Unit {0}
AreOf functions file (None ∷ flows) = AreOf functions file flows
AreOf functions file (Some flow ∷ flows) = (functions flow ≡ file) × AreOf functions file flows

-- ---- tasks by number

abbrev pub is_numbered : TaskNo → Task → Bool
is_numbered number task = task.number.0 == number.0

-- the task of that number
abbrev pub task_at : TaskNo → List Task → Option Task
task_at number [] = None
task_at number (t ∷ ts) = if is_numbered number t then Some t else task_at number ts

-- with this in the place of the task of that number
abbrev pub stored : TaskNo → Task → List Task → List Task
stored number task [] = []
stored number task (t ∷ ts) = if is_numbered number t then task ∷ ts else t ∷ stored number task ts

-- without the task of that number
abbrev pub without : TaskNo → List Task → List Task
without number tasks = filter (λ (t : Task). not (is_numbered number t)) tasks

-- ---- polls

-- Of the live task of that number this is left, and all else is as before.
pub record Leaves {F : Type 0} (m : Meanings F) (before : List (Option F)) (number : TaskNo) (flow rest : F) (after : List (Option F)) : Type 0 where
  pub found : flow_at number before ≡ Some flow
  pub left : IsLeftOf m flow rest
  pub own : (m.task rest).number ≡ number
  pub after_is : after ≡ slice_set before number.0 (Some rest)
  pub task_is : task_at number (tasks_of m.task before) ≡ Some (m.task flow)
  pub tasks_are : tasks_of m.task after ≡ stored number (m.task rest) (tasks_of m.task before)

pub record LeavesTask {F : Type 0} (m : Meanings F) (before : List (Option F)) (number : TaskNo) (after : List (Option F)) : Type 0 where
  pub flow : F
  pub rest : F
  pub leaves : Leaves m before number flow rest after

-- The live task of that number was polled.
pub record PollsTask {F : Type 0} (m : Meanings F) (view : View) (fuel : ℕ) (before : List (Option F)) (number : TaskNo) (given : Given)
    (turned : Turned) (fuel' : ℕ) (after : List (Option F)) : Type 0 where
  pub flow : F
  pub rest : F
  pub leaves : Leaves m before number flow rest after
  pub polls : PollsTo m view fuel flow given turned fuel' rest
