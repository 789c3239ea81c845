-- A means of proof: the tasks of a test, those that live and how the others have ended, for the proofs of the runner.
use Rattle.std.specs.Prelude.{◌≡◌, ◌<◌, ◌||◌, nat_le, not, Bool, List, length, filter, Option, IsSome, is_some}
use Rattle.py_value.specs.declared.trigger.TaskNo.{TaskNo}
use Rattle.await_tree.specs.EndedTasks.Endings.{Endings, start_limit, is_done}
use Rattle.run_state.specs.LiveTasks.Tasks.{Meanings, tasks_of, AreOf}
use Rattle.test_meaning.specs.Body.BodyTrees.{Function}
use Rattle.rig_model.specs.Task.Frame.{Task}
use Rattle.rig_model.specs.Run.Effect.{is_numbered}
use Rattle.rig_model.specs.Run.Limits.{live_limit}
use Rattle.rig_model.specs.Run.Step.{task_at}
use Rattle.run_state.specs.declared.test_tasks.tasks.TestTasks.{TestTasks}

-- the live tasks, by rising number
abbrev pub live_in : {M F : Type 0} → (F → Task) → TestTasks M F → List Task
live_in task t = tasks_of task t.live

-- without the task of that number
abbrev pub without : TaskNo → List Task → List Task
without number tasks = filter (λ (t : Task). not (is_numbered number t)) tasks

-- no further task may be started
abbrev pub are_full : List Task → Endings → Bool
are_full tasks endings = nat_le live_limit (length tasks) || nat_le start_limit (length endings)

-- Of the tasks that were started each one lives or has ended, and no other lives.
pub record AreEither (tasks : List Task) (endings : Endings) : Type 0 where
  pub started : (n : TaskNo) → IsSome (task_at n tasks) → n.0 < length endings
  pub ends : (n : TaskNo) → n.0 < length endings → is_done n endings ≡ not (is_some (task_at n tasks))

-- The same of tasks that have flows, each of this file, and each at the number of its task.
pub record AreWhole {F : Type 0} (m : Meanings F) (file : List Function) (flows : List (Option F)) (endings : Endings) : Type 0 where
  pub file_is : AreOf m.functions file flows
  pub as_many : length flows ≡ length endings
  pub either : AreEither (tasks_of m.task flows) endings

abbrev pub IsWhole : {M F : Type 0} → (M → List Function) → Meanings F → TestTasks M F → Type 0
IsWhole functions m t = AreWhole m (functions t.maker) t.live t.ended
