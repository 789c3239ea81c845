-- A configuration of the runner, without what it has written and what it has cost.
use Rattle.std.specs.Prelude.{ℕ, Bool, true, false, List, [], ◌∷◌, ◌++◌, map, Option, Some, None}
use Rattle.gpi.specs.Design.{Proc, procs_of, nets_of}
use Rattle.gpi.specs.Keys.{set_of}
use Rattle.gpi.specs.State.{State}
use Rattle.gpi.specs.Events.{Event, event}
use Rattle.gpi.specs.declared.design.Flat.{Flat}
use Rattle.gpi.specs.declared.types.Counts.{Counts}
use Rattle.gpi.specs.declared.types.Key.{Key}
use Rattle.gpi.specs.declared.types.SigId.{SigId}
use Rattle.gpi.specs.declared.types.Told.{Told}
use Rattle.py_value.specs.Places.{places_of, path_at}
use Rattle.py_value.specs.declared.trigger.TaskNo.{TaskNo}
use Rattle.py_evaluate.specs.Attribute.Look.{View}
use Rattle.run_view.specs.DesignNames.Names.{names_of}
use Rattle.await_tree.specs.Begin.{Facts}
use Rattle.await_tree.specs.declared.cause.Given.{Given}
use Rattle.await_tree.specs.EndedTasks.Endings.{Endings, all_done, all_failed}
use Rattle.await_tree.specs.SyncObjects.States.{States}
use Rattle.task_queue.specs.Queues.{TaskQueue}
use Rattle.run_view.specs.View.{seen}
use Rattle.run_view.specs.declared.signal_port.staged.Staged.{Staged}
use Rattle.run_view.specs.RandomStream.Generator.{Generator}
use Rattle.test_meaning.specs.Body.BodyTrees.{Function}
use Rattle.rig_model.specs.Task.Frame.{Task}
use Rattle.await_tree.specs.WaitList.Waiting.{Waiting, held_keys, awaited_keys}
use Rattle.await_tree.specs.declared.wait_list.ready.Entry.{Entry}
use Rattle.rig_model.specs.Run.Line.{sig_line}
use Rattle.rig_model.specs.declared.run.outcome.Outcome.{Outcome}

-- what all of a run shares: the functions of the tests file by number, the design, and whether told changes are written
pub record Setup : Type 0 where
  pub functions : List Function
  pub flat : Flat
  pub trace : Bool

-- the task in whose turn we are, with what it is given at its next step
pub record Running : Type 0 where
  pub task : TaskNo
  pub given : Option Given

pub record Rig : Type 0 where
  -- the state of the simulator
  pub sim : State
  -- the live tasks, by rising number
  pub tasks : List Task
  -- of each task that was started in this test, by number, how it ended, if it has
  pub endings : Endings
  -- the task in whose turn we are
  pub running : Option Running
  -- the tasks that are ready, the first of them first
  pub ready : List Entry
  -- the tasks that wait, in the order in which they began to
  pub waiting : List Waiting
  -- the events and locks that were made in this test
  pub objects : States
  -- the queues that were made in this test
  pub queues : List TaskQueue
  -- the staged writes, the oldest first
  pub staged : List Staged
  -- fired keys that aren't served yet
  pub fired : List Key
  -- when the test is given up
  pub deadline : Option ℕ
  -- when the next test begins
  pub planned : Option ℕ
  -- the generator of random numbers
  pub random : Generator
  -- how many keys were registered, removed and fired
  pub counts : Counts
  -- how the running test ended, once it did
  pub outcome : Option Outcome

-- ---- awaited keys

abbrev pub is_any : List Staged → Bool
is_any [] = false
is_any (write ∷ writes) = true

-- the keys that the runner itself holds
abbrev pub held : Rig → List Key
held c = held_keys (is_any c.staged) c.deadline c.planned

-- The awaited keys: those of the leaves of all waiting tasks and those of the runner itself, without the fired ones that aren't served yet.
abbrev pub awaited : Rig → List Key
awaited c = awaited_keys c.fired c.waiting (held c)

-- the processes of the design
abbrev pub procs : Setup → List Proc
procs setup = procs_of setup.flat.processes

-- which signals of the design are nets
abbrev pub nets : Setup → List Bool
nets setup = nets_of setup.flat.signals

-- the next event of the simulator, where the awaited keys are registered
abbrev pub event_of : Setup → Rig → Option Event
event_of setup c = event (procs setup) c.sim (set_of (awaited c))

-- ---- what tasks and trees see

abbrev pub facts_of : Rig → Facts
facts_of c = record { events = c.objects.events; locks = c.objects.locks; tasks = all_failed c.endings }

abbrev pub view_of : Setup → Rig → View
view_of setup c = record {
  places = places_of setup.flat;
  nodes = names_of setup.flat.nodes;
  step_fs = setup.flat.step_fs;
  signals = c.sim.signals;
  time = c.sim.time;
  region = c.sim.region;
  events = c.objects.events;
  locks = c.objects.locks;
  ended = all_done c.endings;
  queues = map seen c.queues;
}

-- ---- lines

-- a configuration, and the lines that were written on the way to it
pub record After : Type 0 where
  pub rig : Rig
  pub lines : List (List ℕ)

-- no line was written
abbrev pub quiet : Rig → After
quiet c = record { rig = c; lines = [] }

-- what follows on a configuration writes its lines behind those that led there
abbrev pub followed_by : After → (Rig → After) → After
followed_by a f = let b = f a.rig in record { rig = b.rig; lines = a.lines ++ b.lines }

-- the path of a signal, which begins with the name of the top module
abbrev pub path_of : Flat → SigId → List ℕ
path_of flat sig = path_at (places_of flat).signals sig.0

-- the line of a told change, where it is written
abbrev pub told_line : Setup → Bool → ℕ → Told → List (List ℕ)
told_line setup true time told = sig_line time (path_of setup.flat told.sig) told.bits ∷ []
told_line setup false time told = []

abbrev pub told_lines : Setup → ℕ → Option Told → List (List ℕ)
told_lines setup time None = []
told_lines setup time (Some told) = told_line setup setup.trace time told
