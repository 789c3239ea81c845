-- A means of proof: what a queue of the running test was given and has given, step by step, for the laws of queues.
use Rattle.std.specs.Prelude.{◌≡◌, ◌⊎◌, ℕ, zero, suc, ◌==◌, nat_lt, Bool, true, false, List, [], ◌∷◌, ◌++◌, length, Option, None, Some, if◌then◌else◌}
use Rattle.py_syntax.specs.declared.fault_kind.FaultKind.{FaultKind}
use Rattle.py_syntax.specs.declared.fault_kind.FaultKind.TheVariants.{QueueFull, RuntimeError}
use Rattle.py_value.specs.Answer.{plain_fault}
use Rattle.py_value.specs.declared.trigger.QueueNo.{QueueNo}
use Rattle.py_value.specs.declared.value.Value.{Value}
use Rattle.py_value.specs.declared.value.Value.TheVariants as value
use Rattle.task_queue.specs.Queues.{TaskQueue, queue_at}
use Rattle.await_tree.specs.declared.cause.Given.{Given}
use Rattle.await_tree.specs.declared.cause.Given.TheVariants as given
use Rattle.test_meaning.specs.Body.BodyTrees.{Case}
use Rattle.rig_model.specs.Task.Frame.{Task}
use Rattle.rig_model.specs.Task.Step.{next}
use Rattle.rig_model.specs.declared.task.task.Turned.{Turned}
use Rattle.rig_model.specs.declared.task.task.Turned.TheVariants as turned
use Rattle.rig_model.specs.declared.run.outcome.Outcome.{Outcome}
use Rattle.rig_model.specs.Run.Rig.{Rig, Setup, Running, view_of}
use Rattle.rig_model.specs.Run.Run.{Place, Begins, Runs, Waits, Over, Run, goes, step, steps, opening}
use Rattle.rig_model.specs.Run.Step.{rig_step, task_at}
use Rattle.run_laws.specs.Remainder.Alike.{turn_of}

-- ---- what the next step wants

-- a task that isn't live wants nothing
abbrev pub wanted_by : Setup → Running → Option Task → Rig → Option Turned
wanted_by setup r None c = None
wanted_by setup r (Some task) c = (next setup.functions task r.given (view_of setup c)).turned

abbrev pub wanted_in : Setup → Option Running → Rig → Option Turned
wanted_in setup None c = None
wanted_in setup (Some r) c = wanted_by setup r (task_at r.task c.tasks) c

-- what the task wants whose step comes next; nothing where the simulator does an event
abbrev pub wish : Setup → Rig → Option Turned
wish setup c = wanted_in setup (turn_of c.running c.ready c) c

-- ---- what it puts into a queue, and takes from it, told by what its task is given then

-- what the task in this turn is given
abbrev pub told_of : Option Running → Option Given
told_of None = None
told_of (Some r) = r.given

-- what the task that does the next step is given for it
abbrev pub told_after : Setup → Rig → Option Given
told_after setup c = told_of (rig_step setup c).rig.running

-- the item, where it is put into this queue, which was made, and the task is given None
abbrev pub stored_when : Bool → Bool → Option Given → Value → List Value
stored_when true true (Some (given.Value value.Absent)) item = item ∷ []
stored_when _ _ _ _ = []

abbrev pub stored_by : QueueNo → Option Turned → Option Given → List TaskQueue → List Value
stored_by queue (Some (turned.PutNow other item)) told queues = stored_when (other.0 == queue.0) (nat_lt other.0 (length queues)) told item
stored_by queue _ told queues = []

-- the value that the task is given, where it is one from this queue and no fault
abbrev pub given_when : Bool → Option Given → List Value
given_when true (Some (given.Value item)) = item ∷ []
given_when _ _ = []

abbrev pub given_by : QueueNo → Option Turned → Option Given → List Value
given_by queue (Some (turned.GetNow other)) told = given_when (other.0 == queue.0) told
given_by queue _ told = []

-- the step is a put into this queue, or a get from it
abbrev pub is_for : QueueNo → Option Turned → Bool
is_for queue (Some (turned.PutNow other item)) = other.0 == queue.0
is_for queue (Some (turned.GetNow other)) = other.0 == queue.0
is_for queue _ = false

-- the task in this turn goes on, and is given this
abbrev pub goes_on_with : Given → Option Running → Option Running
goes_on_with g None = None
goes_on_with g (Some r) = Some (record { task = r.task; given = Some g })

-- it goes on with this value
abbrev pub goes_on_with_value : Value → Option Running → Option Running
goes_on_with_value v turn = goes_on_with (given.Value v) turn

-- a fault of this kind is raised in it
abbrev pub goes_on_with_fault : FaultKind → Option Running → Option Running
goes_on_with_fault kind turn = goes_on_with (given.Fault (plain_fault kind)) turn

-- a put is answered so: its task goes on with None, or one of these faults is raised in it
abbrev pub IsPutAnswer : Option Running → Option Running → Type 0
IsPutAnswer turn running =
    (running ≡ goes_on_with_value value.Absent turn)
    ⊎ (running ≡ goes_on_with_fault QueueFull turn) ⊎ (running ≡ goes_on_with_fault RuntimeError turn)

-- ---- the account of a queue

-- What PutNow has stored in a queue since the test began that runs, in order, and what GetNow has given of it.
pub record Account : Type 0 where
  pub stored : List Value
  pub given : List Value

abbrev pub nothing_yet : Account
nothing_yet = record { stored = []; given = [] }

-- with what the step puts and takes
abbrev pub accounted : Setup → QueueNo → Rig → Account → Account
accounted setup queue c a = record {
  stored = a.stored ++ stored_by queue (wish setup c) (told_after setup c) c.queues;
  given = a.given ++ given_by queue (wish setup c) (told_after setup c);
}

abbrev pub accounted_in : Setup → QueueNo → Option Outcome → Rig → Account → Account
accounted_in setup queue (Some outcome) c a = nothing_yet
accounted_in setup queue None c a = accounted setup queue c a

-- the account after a step of a run: one that ends a test begins anew
abbrev pub accounted_at : Setup → QueueNo → Place → Rig → Account → Account
accounted_at setup queue (Begins cases) c a = a
accounted_at setup queue (Runs case cases) c a = accounted_in setup queue c.outcome c a
accounted_at setup queue (Waits cases) c a = accounted setup queue c a
accounted_at setup queue Over c a = a

-- after so many steps, or fewer where the run stops
unfoldable pub account_after : Setup → QueueNo → ℕ → ℕ → Run → Account → Account
account_after setup queue budget zero c a = a
account_after setup queue budget (suc n) c a =
    if goes setup budget c then account_after setup queue budget n (step setup c) (accounted_at setup queue c.place c.rig a) else a

-- The account of a queue after so many steps of a run of these tests.
abbrev pub account : Setup → QueueNo → ℕ → ℕ → ℕ → List Case → Account
account setup queue budget count seed cases = account_after setup queue budget count (opening setup seed cases) nothing_yet

-- the items that a queue holds then, the oldest first
abbrev pub items_after : Setup → QueueNo → ℕ → ℕ → ℕ → List Case → List Value
items_after setup queue budget count seed cases = (queue_at queue (steps setup budget count (opening setup seed cases)).rig.queues).items

-- What was stored in it is what was given of it, followed by what it holds.
abbrev pub IsBalanced : Account → List Value → Type 0
IsBalanced a items = a.stored ≡ a.given ++ items
