-- A means of proof: the live tasks of a test, before and after a poll of one of them, for the proofs of the runner.
use Rattle.std.specs.Prelude.{◌≡◌, ℕ, List, Some}
use Rattle.py_evaluate.specs.Attribute.Look.{View}
use Rattle.py_value.specs.declared.trigger.TaskNo.{TaskNo}
use Rattle.await_tree.specs.declared.cause.Given.{Given}
use Rattle.test_meaning.specs.Body.BodyTrees.{Function}
use Rattle.rig_model.specs.Task.Frame.{Task}
use Rattle.rig_model.specs.Task.Known.{KnowsTurned, KnowsWhole}
use Rattle.rig_model.specs.Task.Poll.{Polled}
use Rattle.rig_model.specs.declared.task.task.Turned.{Turned}
use Rattle.rig_model.specs.Run.Step.{task_at, stored}

-- This is left of the live task of that number, which keeps its number, and all others are as before.
pub record LeftOf (before : List Task) (number : TaskNo) (task rest : Task) (after : List Task) : Type 0 where
  pub found : task_at number before ≡ Some task
  pub own : rest.number ≡ number
  pub stored_is : after ≡ stored number rest before

-- Of the live task of that number something is left, and all others are as before.
pub record LeavesOne (before : List Task) (number : TaskNo) (after : List Task) : Type 0 where
  pub task : Task
  pub rest : Task
  pub left : LeftOf before number task rest after

-- The live task of that number was polled, and the view knows what it wants and what is left of it.
pub record PollsOne (functions : List Function) (view : View) (fuel : ℕ) (before : List Task) (number : TaskNo) (given : Given) (turned : Turned)
    (fuel' : ℕ) (after : List Task) : Type 0 where
  pub task : Task
  pub rest : Task
  pub left : LeftOf before number task rest after
  pub polled : Polled functions view fuel task (Some given) turned fuel' rest
  pub wanted : KnowsTurned functions view turned
  pub known : KnowsWhole functions view rest
