-- A means of proof: what a step of a call tells, for the proofs of a task's steps.
use Rattle.std.specs.Prelude.{◌≡◌, ℕ, ◌≤◌, ◌∷◌, Result, IfOk}
use Rattle.py_value.specs.declared.trigger.TaskNo.{TaskNo}
use Rattle.py_evaluate.specs.Attribute.Look.{View}
use Rattle.rig_model.specs.Task.Frame.{On, Use, Uses}
use Rattle.rig_model.specs.Task.Moves.{At, Move, Asks}
use Rattle.rig_model.specs.declared.task.task.Turned.{Turned}
use Rattle.task_core.specs.Code.Reading.{Reading}
use Rattle.task_core.specs.OpenCall.Call.{Moved, at_in, frame_in}
use Rattle.task_core.specs.OpenCall.Course.{wish_in}
use Rattle.task_core.specs.OpenCall.Parts.{todos_in}
use Rattle.task_core.specs.OpenCall.Slots.{names_in}
use Rattle.task_core.specs.declared.open_call.call.OpenCall.{OpenCall}
use Rattle.task_core.specs.declared.open_call.course.Wish.{Wish}

-- The move, from the place that the call was at, leaves the call, the number of the next trigger and the wish; after want of memory there is no wish.
-- The next number never falls.
pub record Stepped {C E : Type 0} (r : C → Reading) (move : At → Move) (task : TaskNo) (view : View) (before after : OpenCall C) (old next : ℕ) (result : Result Wish E)
    : Type 0 where
  pub moved : IfOk result (λ wish. Moved r (move (at_in r task view before old)) after next wish)
  pub rises : old ≤ next

-- The call goes on, and this is wanted of the runner; what that gives is used so.
pub record Wanted {C : Type 0} (r : C → Reading) (before after : OpenCall C) (answer : Wish) (u : Use) (wanted : Turned) : Type 0 where
  pub frame : frame_in r after ≡ record { names = names_in before.slots; course = On; todo = Uses u ∷ todos_in r before.todo }
  pub wish : wish_in answer ≡ Asks wanted
