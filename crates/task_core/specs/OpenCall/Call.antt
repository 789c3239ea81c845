-- A means of proof: the frame that an open call stands for, and how a call in the midst of a step is a place where something is done, for
-- the proofs of a task's open calls.
use Rattle.std.specs.Prelude.{◌≡◌, ℕ, List, Option}
use Rattle.py_value.specs.Answer.{plain_fault}
use Rattle.py_value.specs.declared.trigger.TaskNo.{TaskNo}
use Rattle.py_value.specs.declared.value.Value.{Value}
use Rattle.py_evaluate.specs.declared.attribute.fault.OperationFault.{OperationFault}
use Rattle.py_evaluate.specs.declared.attribute.fault.OperationFault.TheVariants as faults
use Rattle.py_evaluate.specs.Attribute.Look.{View}
use Rattle.rig_model.specs.Task.Frame.{Frame, Course, On, Todo, Leaves, Throw, with_local}
use Rattle.rig_model.specs.Task.Moves as move
use Rattle.rig_model.specs.Task.Moves.{At, Move}
use Rattle.task_core.specs.Code.Reading.{Reading}
use Rattle.task_core.specs.OpenCall.Slots.{names_in}
use Rattle.task_core.specs.OpenCall.Course.{course_in, wish_in}
use Rattle.task_core.specs.OpenCall.Parts.{todos_in}
use Rattle.task_core.specs.declared.open_call.call.OpenCall.{OpenCall}
use Rattle.task_core.specs.declared.open_call.course.Wish.{Wish}

abbrev pub frame_in : {C : Type 0} → (C → Reading) → OpenCall C → Frame
frame_in r call = record { names = names_in call.slots; course = course_in call.course; todo = todos_in r call.todo }

-- ---- in the midst of a step

-- A call that is in the midst of a step of this task, whose next trigger has this number: what is on its stack is what stands behind the thing that is
-- done. Its course is of no account until the step ends.
abbrev pub at_in : {C : Type 0} → (C → Reading) → TaskNo → View → OpenCall C → ℕ → At
at_in r task view call next = record { scope = record { task = task; names = names_in call.slots; view = view }; rest = todos_in r call.todo; next = next }

-- The step has come to this: the move leaves this call, this number of the next trigger, and this wish.
abbrev pub Moved : {C : Type 0} → (C → Reading) → Move → OpenCall C → ℕ → Wish → Type 0
Moved r m call next wish = m ≡ record { frame = frame_in r call; next = next; wish = wish_in wish }

-- ---- what changes of a call

-- it goes on so, and wants this
pub record Ended {C : Type 0} (r : C → Reading) (before after : OpenCall C) (answer : Wish) (course : Course) (wanted : move.Wish) : Type 0 where
  pub frame : frame_in r after ≡ record { names = names_in before.slots; course = course; todo = todos_in r before.todo }
  pub wish : wish_in answer ≡ wanted

-- it goes on with this to do, and wants nothing
pub record Goes {C : Type 0} (r : C → Reading) (before after : OpenCall C) (answer : Wish) (left : List Todo) : Type 0 where
  pub frame : frame_in r after ≡ record { names = names_in before.slots; course = On; todo = left }
  pub wish : wish_in answer ≡ move.Nothing

-- it raises the fault of an operation, unless memory was short
abbrev pub RaisedBy : {C : Type 0} → (C → Reading) → OperationFault → OpenCall C → OpenCall C → Wish → Type 0
RaisedBy r (faults.Raised kind) before after wish = Ended r before after wish (Leaves (Throw (plain_fault kind))) move.Nothing
RaisedBy r faults.OutOfMemory before after wish = ⊥

-- a name has this value, or none
pub record Named {C : Type 0} (before after : OpenCall C) (name : List ℕ) (value : Option Value) : Type 0 where
  pub names : names_in after.slots ≡ with_local (names_in before.slots) name value
  pub course : after.course ≡ before.course
  pub todo : after.todo ≡ before.todo

-- this is to be done in place of what was
pub record Does {C : Type 0} (r : C → Reading) (before after : OpenCall C) (left : List Todo) : Type 0 where
  pub todo : todos_in r after.todo ≡ left
  pub course : after.course ≡ before.course
  pub slots : after.slots ≡ before.slots

-- its names and its course are as they were
pub record IsSame {C : Type 0} (before after : OpenCall C) : Type 0 where
  pub slots : after.slots ≡ before.slots
  pub course : after.course ≡ before.course
