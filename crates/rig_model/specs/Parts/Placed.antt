-- A means of proof: where the tasks of a test stand, for the proofs of the runner: at most one has its turn, some are ready and some wait;
-- of those that were started each one lives or has ended.
use Rattle.std.specs.Prelude.{◌≡◌, ℕ, ◌+◌, ◌<◌, ◌≤◌, ◌==◌, Bool, true, false, not, List, [], ◌∷◌, ◌++◌, length, map, Option, None, Some, IsSome, is_some}
use Rattle.py_value.specs.declared.trigger.TaskNo.{TaskNo}
use Rattle.await_tree.specs.EndedTasks.Endings.{Endings, is_done}
use Rattle.rig_model.specs.Task.Frame.{Task}
use Rattle.await_tree.specs.WaitList.Waiting.{Waiting}
use Rattle.await_tree.specs.declared.wait_list.ready.Entry.{Entry}
use Rattle.rig_model.specs.Run.Step.{task_at}

abbrev pub one_if : Bool → ℕ
one_if true = 1
one_if false = 0

-- how often a task is among these
abbrev pub times : TaskNo → List TaskNo → ℕ
times number [] = 0
times number (n ∷ ns) = one_if (n.0 == number.0) + times number ns

abbrev pub tasks_ready : List Entry → List TaskNo
tasks_ready ready = map (λ (e : Entry). e.task) ready

abbrev pub tasks_waiting : List Waiting → List TaskNo
tasks_waiting waiting = map (λ (w : Waiting). w.task) waiting

abbrev pub in_turn : Option TaskNo → List TaskNo
in_turn None = []
in_turn (Some number) = number ∷ []

-- the task that has its turn, if one has, those that are ready, and those that wait
abbrev pub placed : Option TaskNo → List Entry → List Waiting → List TaskNo
placed turn ready waiting = in_turn turn ++ (tasks_ready ready ++ tasks_waiting waiting)

-- Each of these tasks is live, and none is among them twice. Of the tasks that were started each one lives or has ended, and no other lives.
pub record ArePlaced (tasks : List Task) (endings : Endings) (numbers : List TaskNo) : Type 0 where
  pub live : (n : TaskNo) → 0 < times n numbers → IsSome (task_at n tasks)
  pub once : (n : TaskNo) → times n numbers ≤ 1
  pub started : (n : TaskNo) → IsSome (task_at n tasks) → n.0 < length endings
  pub ends : (n : TaskNo) → n.0 < length endings → is_done n endings ≡ not (is_some (task_at n tasks))
