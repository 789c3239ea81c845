-- One step of a task (the language reference, 6.4 and 8.9.1).
use Rattle.std.specs.Prelude.{ℕ, suc, nat_lt, Bool, true, false, List, [], ◌∷◌, length, Option, None, Some}
use Rattle.py_syntax.specs.declared.fault_kind.FaultKind.TheVariants.{RuntimeError}
use Rattle.py_value.specs.Answer.{plain_fault}
use Rattle.py_value.specs.declared.trigger.TaskNo.{TaskNo}
use Rattle.py_value.specs.declared.value.Value.{Value}
use Rattle.py_value.specs.declared.value.Value.TheVariants.{Absent}
use Rattle.py_evaluate.specs.Attribute.Look.{View, Names}
use Rattle.test_meaning.specs.Body.BodyTrees.{Function}
use Rattle.rig_model.specs.Task.Frame.{Todo, Uses, Jump, Throw, Return, Course, On, Has, Leaves, Frame, Task, entered, function_at}
use Rattle.rig_model.specs.Task.Moves.{At, Move, Wish, Nothing, Asks, Calls, Ends, moved}
use Rattle.rig_model.specs.Task.Values.{use_value}
use Rattle.rig_model.specs.Task.Blocks.{do_first}
use Rattle.rig_model.specs.Task.Leaving.{drop_mark}
use Rattle.await_tree.specs.declared.cause.Given.{Given}
use Rattle.await_tree.specs.declared.cause.Given.TheVariants as given
use Rattle.rig_model.specs.declared.task.task.Turned.{Turned}
use Rattle.rig_model.specs.declared.task.task.Turned.TheVariants as turned

-- ---- of one call

-- behind its last statement a function returns None
abbrev pub step_on : List Todo → At → Move
step_on [] a = moved (record a { rest = [] }) On (Ends (Return Absent))
step_on (todo ∷ rest) a = do_first todo (record a { rest = rest })

-- a value that nothing uses is let go
abbrev pub step_with : Value → List Todo → At → Move
step_with v (Uses u ∷ rest) a = use_value u v (record a { rest = rest })
step_with v todo a = step_on todo a

abbrev pub step : Course → List Todo → At → Move
step On todo a = step_on todo a
step (Has v) todo a = step_with v todo a
step (Leaves jump) todo a = drop_mark jump todo a

-- a value that is given is to be used, unless blocks are being left; a fault that is given takes the place of what went on
abbrev pub value_given : Value → Course → Course
value_given v (Leaves jump) = Leaves jump
value_given v _ = Has v

abbrev pub given_to : Option Given → Course → Course
given_to (Some (given.Value v)) course = value_given v course
given_to (Some (given.Fault fault)) course = Leaves (Throw fault)
given_to _ course = course

abbrev pub at : TaskNo → ℕ → Names → View → At
at number triggers names view = record { scope = record { task = number; names = names; view = view }; rest = []; next = triggers }

abbrev pub frame_move : Frame → Option Given → Task → View → Move
frame_move f g task view = step (given_to g f.course) f.todo (at task.number task.triggers f.names view)

-- ---- of the calls of a task

-- the rest of a task, and what it wants of the runner, if that step wants anything
pub record Next : Type 0 where
  pub task : Task
  pub turned : Option Turned

-- how many calls of a task may be open
abbrev pub frame_limit : ℕ
frame_limit = 1000

-- a call, where fewer are open than may be; else RuntimeError is raised where it stands
abbrev pub call : Bool → Function → List Value → Frame → List Frame → List Frame
call true f args frame frames = entered f args ∷ frame ∷ frames
call false f args frame frames = record frame { course = Leaves (Throw (plain_fault RuntimeError)) } ∷ frames

-- what a call ends with, as the call around it gets it; only a `return` and a fault leave a function
abbrev pub result_course : Jump → Course
result_course (Throw fault) = Leaves (Throw fault)
result_course (Return v) = Has v
result_course _ = Has Absent

-- the same, as the task ends with it
abbrev pub ending : Jump → Turned
ending (Throw fault) = turned.Raised fault
ending (Return v) = turned.Done v
ending _ = turned.Done Absent

abbrev pub returned : Jump → List Frame → Task → Next
returned jump [] task = record { task = record task { frames = [] }; turned = Some (ending jump) }
returned jump (f ∷ fs) task = record { task = record task { frames = record f { course = result_course jump } ∷ fs }; turned = None }

-- what the innermost call, and the calls around it, are after its step
abbrev pub settled : List Function → Wish → Frame → List Frame → Task → Next
settled functions Nothing frame frames task = record { task = record task { frames = frame ∷ frames }; turned = None }
settled functions (Asks t) frame frames task = record { task = record task { frames = frame ∷ frames }; turned = Some t }
settled functions (Calls n args) frame frames task =
    record { task = record task { frames = call (nat_lt (suc (length frames)) frame_limit) (function_at functions n) args frame frames }; turned = None }
settled functions (Ends jump) frame frames task = returned jump frames task

abbrev pub next_of : List Function → List Frame → Task → Option Given → View → Next
next_of functions [] task g view = record { task = task; turned = Some (turned.Done Absent) }
next_of functions (f ∷ fs) task g view =
    let m = frame_move f g task view in
    settled functions m.wish m.frame fs (record task { triggers = m.next })

-- One step of a task of a file with these functions: what is given is used, and the next statement, condition, question of a loop or mark is done. The
-- step after one that wanted nothing is given nothing.
abbrev pub next : List Function → Task → Option Given → View → Next
next functions task g view = next_of functions task.frames task g view
