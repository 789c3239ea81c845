-- A means of proof: configurations of which all is known, for the proofs of the runner: each value, each trigger and each number in them is
-- of the design, or was made in the test.
use Rattle.std.specs.Prelude.{◌≡◌, ◌+◌, ◌<◌, ◌≤◌, List, [], ◌∷◌, length, Option, IfSome}
use Rattle.gpi.specs.Terms.{widths_of}
use Rattle.gpi.specs.declared.types.Key.{Key}
use Rattle.gpi.specs.declared.types.Key.TheVariants as key
use Rattle.py_value.specs.Trigger.{Trig, IsSound}
use Rattle.py_evaluate.specs.Attribute.Look.{View}
use Rattle.py_evaluate.specs.Attribute.Knows.{Knows, KnowsAll, KnowsTrig, KnowsSignal, KnowsNode, KnowsDesign}
use Rattle.await_tree.specs.declared.cause.Awaited.{Awaited}
use Rattle.await_tree.specs.declared.cause.Awaited.TheVariants as awaited
use Rattle.await_tree.specs.declared.finish.Finish.{Finish}
use Rattle.await_tree.specs.declared.finish.Finish.TheVariants.{Reached, Ended, TimedOut}
use Rattle.await_tree.specs.Tree.{Tree, Trees, Over, Leaf, Cycles, First, Combine, Limit, NoTree, Then}
use Rattle.task_queue.specs.Queues.{TaskQueue}
use Rattle.run_view.specs.View.{HasEvents}
use Rattle.run_view.specs.declared.signal_port.staged.Staged.{Staged}
use Rattle.test_meaning.specs.Body.BodyTrees.{Function}
use Rattle.rig_model.specs.Task.Frame.{Task}
use Rattle.rig_model.specs.Task.Known.{AreSoundFunctions, KnowsWhole, KnowsGiven, KnowsWrite}
use Rattle.await_tree.specs.declared.wait_list.ready.Entry.{Entry}
use Rattle.await_tree.specs.WaitList.Waiting.{Waiting}
use Rattle.await_tree.specs.declared.ended_tasks.ending.Ending.{Ending}
use Rattle.await_tree.specs.declared.ended_tasks.ending.Ending.TheVariants.{Returned, Failed, Killed}
use Rattle.rig_model.specs.Run.Rig.{Rig, Setup, Running, view_of}

-- ---- trees

-- a trigger that a task may wait for
abbrev pub KnowsTrigger : View → Trig → Type 0
KnowsTrigger view trig = KnowsTrig view trig × IsSound trig

abbrev pub KnowsKey : View → Key → Type 0
KnowsKey view (key.Rise sig) = KnowsSignal view sig.0
KnowsKey view (key.Fall sig) = KnowsSignal view sig.0
KnowsKey view (key.Change sig) = KnowsSignal view sig.0
KnowsKey view _ = Unit {0}

abbrev pub KnowsAwaited : View → Awaited → Type 0
KnowsAwaited view (awaited.Key k) = KnowsKey view k
KnowsAwaited view (awaited.Event event) = event.0 < length view.events
KnowsAwaited view (awaited.Lock lock) = lock.0 < length view.locks
KnowsAwaited view (awaited.Join task) = task.0 < length view.ended

abbrev pub KnowsFinish : View → Finish → Type 0
KnowsFinish view (Reached trig) = KnowsTrigger view trig
KnowsFinish view (Ended task failed) = task.0 < length view.ended
KnowsFinish view TimedOut = Unit {0}

abbrev mutual
  pub KnowsTree : View → Tree → Type 0
  KnowsTree view (Over f) = KnowsFinish view f
  KnowsTree view (Leaf on trig) = KnowsAwaited view on × KnowsTrigger view trig
  KnowsTree view (Cycles k left trig) = KnowsKey view k × KnowsTrigger view trig
  KnowsTree view (First ts) = KnowsTrees view ts
  KnowsTree view (Combine trig ts) = KnowsTrigger view trig × KnowsTrees view ts
  KnowsTree view (Limit due t) = KnowsTree view t

  pub KnowsTrees : View → Trees → Type 0
  KnowsTrees view NoTree = Unit {0}
  KnowsTrees view (Then t ts) = KnowsTree view t × KnowsTrees view ts

-- ---- the parts of a configuration

abbrev pub KnowsTasks : List Function → View → List Task → Type 0
KnowsTasks functions view [] = Unit {0}
KnowsTasks functions view (t ∷ ts) = KnowsWhole functions view t × KnowsTasks functions view ts

abbrev pub KnowsRunning : View → Running → Type 0
KnowsRunning view r = IfSome r.given (KnowsGiven view)

abbrev pub KnowsReady : View → List Entry → Type 0
KnowsReady view [] = Unit {0}
KnowsReady view (e ∷ es) = KnowsGiven view e.given × KnowsReady view es

abbrev pub KnowsWaiting : View → List Waiting → Type 0
KnowsWaiting view [] = Unit {0}
KnowsWaiting view (w ∷ ws) = KnowsTree view w.tree × KnowsWaiting view ws

abbrev pub KnowsEnding : View → Ending → Type 0
KnowsEnding view (Returned v) = Knows view v
KnowsEnding view (Failed fault) = Unit {0}
KnowsEnding view Killed = Unit {0}

abbrev pub KnowsEndings : View → List (Option Ending) → Type 0
KnowsEndings view [] = Unit {0}
KnowsEndings view (e ∷ es) = IfSome e (KnowsEnding view) × KnowsEndings view es

abbrev pub KnowsStaged : View → List Staged → Type 0
KnowsStaged view [] = Unit {0}
KnowsStaged view (w ∷ ws) = KnowsWrite view w.sig w.act × KnowsStaged view ws

-- the items of a queue are known, and its events were made
abbrev pub KnowsQueue : View → TaskQueue → Type 0
KnowsQueue view q = KnowsAll view q.items × HasEvents (length view.events) q

abbrev pub KnowsQueues : View → List TaskQueue → Type 0
KnowsQueues view [] = Unit {0}
KnowsQueues view (q ∷ qs) = KnowsQueue view q × KnowsQueues view qs

-- What a configuration holds of tasks and of the runner is known to the view.
pub record KnowsHeld (functions : List Function) (view : View) (tasks : List Task) (running : Option Running) (ready : List Entry) (waiting : List Waiting)
    (endings : List (Option Ending)) (staged : List Staged) (queues : List TaskQueue) : Type 0 where
  pub tasks_known : KnowsTasks functions view tasks
  pub running_known : IfSome running (KnowsRunning view)
  pub ready_known : KnowsReady view ready
  pub waiting_known : KnowsWaiting view waiting
  pub endings_known : KnowsEndings view endings
  pub staged_known : KnowsStaged view staged
  pub queues_known : KnowsQueues view queues
  -- each queue has two events
  pub queues_few : length queues + length queues ≤ length view.events

abbrev pub KnowsParts : List Function → View → Rig → Type 0
KnowsParts functions view c = KnowsHeld functions view c.tasks c.running c.ready c.waiting c.endings c.staged c.queues

-- ---- configurations

-- All that the configuration holds is known to its own view; so are the names of the design, its top among them. Each call in the file is sound.
pub record IsKnown (setup : Setup) (c : Rig) : Type 0 where
  pub design : KnowsDesign (view_of setup c)
  pub top : KnowsNode (view_of setup c) 0
  pub sound : AreSoundFunctions setup.functions
  pub parts : KnowsParts setup.functions (view_of setup c) c

-- each signal has as many digits as before
abbrev pub AreAsWide : Rig → Rig → Type 0
AreAsWide before after = widths_of after.sim.signals ≡ widths_of before.sim.signals
