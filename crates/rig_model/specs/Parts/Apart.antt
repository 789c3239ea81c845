-- A means of proof: tasks that live, each in one place alone, for the proofs of the runner.
use Rattle.std.specs.Prelude.{◌≡◌, true, false, List, Option, None, Some, IsSome}
use Rattle.py_value.specs.declared.trigger.TaskNo.{TaskNo}
use Rattle.rig_model.specs.Task.Frame.{Task}
use Rattle.await_tree.specs.WaitList.Ring.{has_entry}
use Rattle.await_tree.specs.WaitList.Waiting.{Waiting, is_waiting}
use Rattle.await_tree.specs.declared.wait_list.ready.Entry.{Entry}
use Rattle.rig_model.specs.Run.Rig.{Rig}
use Rattle.rig_model.specs.Run.Step.{task_at}
use Rattle.rig_model.specs.Parts.Placed.{ArePlaced, placed}

-- The task that has its turn, those that are ready and those that wait are live, and none of them is two of these.
pub record AreApart (tasks : List Task) (turn : Option TaskNo) (ready : List Entry) (waiting : List Waiting) : Type 0 where
  pub turn_lives : (n : TaskNo) → turn ≡ Some n → IsSome (task_at n tasks)
  pub ready_lives : (n : TaskNo) → has_entry n ready ≡ true → IsSome (task_at n tasks)
  pub waiting_lives : (n : TaskNo) → is_waiting n waiting ≡ true → IsSome (task_at n tasks)
  pub turn_not_ready : (n : TaskNo) → turn ≡ Some n → has_entry n ready ≡ false
  pub turn_not_waiting : (n : TaskNo) → turn ≡ Some n → is_waiting n waiting ≡ false
  pub ready_not_waiting : (n : TaskNo) → has_entry n ready ≡ true → is_waiting n waiting ≡ false

-- no task has its turn, and those that are ready and those that wait have their places
abbrev pub IsPlaced : Rig → Type 0
IsPlaced c = (c.running ≡ None) × ArePlaced c.tasks c.endings (placed None c.ready c.waiting)
