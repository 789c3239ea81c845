-- A means of proof: which tasks a view knows, for the proofs of tasks: each value that a task holds, and each lock and task in its marks,
-- is one that the view knows, and each call in its file and in what it has still to do is sound. Which things that it wants and is given a
-- view knows.
use Rattle.std.specs.Prelude.{◌≡◌, ℕ, ◌<◌, ◌≤◌, ◌+ℤ◌, ◌-ℤ◌, IsTrue, List, [], ◌∷◌, length, pos}
use Rattle.std.specs.List.{list_all}
use Rattle.gpi.specs.declared.types.SigId.{SigId}
use Rattle.gpi.specs.declared.types.Write.{Write}
use Rattle.gpi.specs.declared.types.Write.TheVariants as write
use Rattle.py_value.specs.Integer.Integer.{is_whole}
use Rattle.py_value.specs.Limits.{text_limit}
use Rattle.py_value.specs.Trigger.{AreSteps, IsSound}
use Rattle.py_value.specs.declared.trigger.LockNo.{LockNo}
use Rattle.py_value.specs.declared.trigger.TaskNo.{TaskNo}
use Rattle.py_evaluate.specs.Attribute.Knows.{Knows, KnowsAll, KnowsNames, KnowsSignal, KnowsTrig}
use Rattle.py_evaluate.specs.Attribute.Look.{View, width}
use Rattle.task_queue.specs.Queues.{item_limit}
use Rattle.test_meaning.specs.Body.BodyTrees.{Call, Function}
use Rattle.test_meaning.specs.Body.Sound.{item_calls, block_calls, handler_calls, is_sound_call, is_sound_function}
use Rattle.rig_model.specs.Task.Frame.{Use, Times, Limited, Enters, Todo, Do, Again, Each, Uses, Handles, Bound, Holds, Jump, Return, Course, On, Has, Leaves, Frame, Task}
use Rattle.await_tree.specs.declared.cause.Given.{Given}
use Rattle.await_tree.specs.declared.cause.Given.TheVariants as given
use Rattle.rig_model.specs.declared.task.task.Turned.{Turned}
use Rattle.rig_model.specs.declared.task.task.Turned.TheVariants as turned

-- a task of the test, and a lock of it
abbrev pub KnowsTask : View → TaskNo → Type 0
KnowsTask view t = t.0 < length view.ended

abbrev pub KnowsLock : View → LockNo → Type 0
KnowsLock view l = l.0 < length view.locks

-- ---- what is still to do

abbrev pub AreSoundCalls : List Function → List Call → Type 0
AreSoundCalls functions calls = IsTrue (list_all (is_sound_call functions) calls)

abbrev pub KnowsUse : List Function → View → Use → Type 0
KnowsUse functions view (Times steps) = AreSteps steps
KnowsUse functions view (Limited t) = KnowsTask view t
KnowsUse functions view (Enters l block) = KnowsLock view l × AreSoundCalls functions (block_calls block)
KnowsUse functions view _ = Unit {0}

abbrev pub KnowsTodo : List Function → View → Todo → Type 0
KnowsTodo functions view (Do item) = AreSoundCalls functions (item_calls item)
KnowsTodo functions view (Again e block) = AreSoundCalls functions (block_calls block)
KnowsTodo functions view (Each n left block) = AreSoundCalls functions (block_calls block)
KnowsTodo functions view (Uses u) = KnowsUse functions view u
KnowsTodo functions view (Handles handlers) = AreSoundCalls functions (handler_calls handlers)
KnowsTodo functions view (Bound n) = Unit {0}
KnowsTodo functions view (Holds l) = KnowsLock view l

abbrev pub KnowsTodos : List Function → View → List Todo → Type 0
KnowsTodos functions view [] = Unit {0}
KnowsTodos functions view (t ∷ ts) = KnowsTodo functions view t × KnowsTodos functions view ts

-- ---- calls and tasks

abbrev pub KnowsJump : View → Jump → Type 0
KnowsJump view (Return v) = Knows view v
KnowsJump view _ = Unit {0}

abbrev pub KnowsCourse : View → Course → Type 0
KnowsCourse view On = Unit {0}
KnowsCourse view (Has v) = Knows view v
KnowsCourse view (Leaves jump) = KnowsJump view jump

pub record KnowsFrame (functions : List Function) (view : View) (f : Frame) : Type 0 where
  pub names : KnowsNames view f.names
  pub course : KnowsCourse view f.course
  pub todo : KnowsTodos functions view f.todo

abbrev pub KnowsFrames : List Function → View → List Frame → Type 0
KnowsFrames functions view [] = Unit {0}
KnowsFrames functions view (f ∷ fs) = KnowsFrame functions view f × KnowsFrames functions view fs

-- each call in a function of the file is sound
abbrev pub AreSoundFunctions : List Function → Type 0
AreSoundFunctions functions = IsTrue (list_all (is_sound_function functions) functions)

-- a task that runs functions of this file
pub record KnowsWhole (functions : List Function) (view : View) (task : Task) : Type 0 where
  pub sound : AreSoundFunctions functions
  pub frames : KnowsFrames functions view task.frames

-- ---- what a task is given, and what it wants

-- what is given; a result of an ended task is put in place before
abbrev pub KnowsGiven : View → Given → Type 0
KnowsGiven view (given.Value v) = Knows view v
KnowsGiven view (given.Joined t) = KnowsTask view t
KnowsGiven view _ = Unit {0}

-- as many digits as there should be
abbrev pub HasDigits : ℕ → Write → Type 0
HasDigits width (write.Plain bits) = length bits ≡ width
HasDigits width (write.Force bits) = length bits ≡ width
HasDigits width write.Freeze = Unit {0}
HasDigits width write.Release = Unit {0}

-- what is written to a signal, with as many digits as it has
pub record KnowsWrite (view : View) (sig : SigId) (act : Write) : Type 0 where
  pub signal : KnowsSignal view sig.0
  pub digits : HasDigits (width view sig) act

abbrev pub KnowsTurned : List Function → View → Turned → Type 0
KnowsTurned functions view (turned.Await t) = KnowsTrig view t × IsSound t
KnowsTurned functions view (turned.Stage sig act) = KnowsWrite view sig act
KnowsTurned functions view (turned.Put sig act) = KnowsWrite view sig act
KnowsTurned functions view (turned.Start n args give_way) = (n < length functions) × KnowsAll view args
KnowsTurned functions view (turned.Kill t) = KnowsTask view t
KnowsTurned functions view turned.NewEvent = Unit {0}
KnowsTurned functions view (turned.SetEvent e) = e.0 < length view.events
KnowsTurned functions view (turned.ClearEvent e) = e.0 < length view.events
KnowsTurned functions view turned.NewLock = Unit {0}
KnowsTurned functions view (turned.Release l) = KnowsLock view l
KnowsTurned functions view (turned.NewQueue bound) = bound ≤ item_limit
KnowsTurned functions view (turned.PutNow queue item) = (queue.0 < length view.queues) × Knows view item
KnowsTurned functions view (turned.GetNow queue) = queue.0 < length view.queues
-- each number that may be drawn is one that a value can hold
KnowsTurned functions view (turned.Draw low span) = (1 ≤ span) × IsTrue (is_whole low) × IsTrue (is_whole (low +ℤ pos span -ℤ pos 1))
KnowsTurned functions view (turned.Log level text) = length text ≤ text_limit
KnowsTurned functions view (turned.Done v) = Knows view v
KnowsTurned functions view (turned.Raised fault) = Unit {0}
KnowsTurned functions view turned.Spent = Unit {0}
