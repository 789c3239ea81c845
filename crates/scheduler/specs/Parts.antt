-- A means of proof: the configuration that a running test stands for, together with a simulator, for the proofs of the runner's turns.
use Rattle.std.specs.Prelude.{List, [], None}
use Rattle.gpi.specs.Content.{Content}
use Rattle.gpi.specs.declared.interface.Gpi.{Ghosts as GpiGhosts}
use Rattle.gpi.specs.declared.types.Key.{Key}
use Rattle.await_tree.specs.EndedTasks.Endings.{Endings}
use Rattle.run_view.specs.RandomStream.Generator.{Generator}
use Rattle.task_queue.specs.Queues.{TaskQueue}
use Rattle.await_tree.specs.SyncObjects.States.{States}
use Rattle.test_meaning.specs.Body.BodyTrees.{Function}
use Rattle.rig_model.specs.Task.Frame.{Task}
use Rattle.await_tree.specs.WaitList.Waiting.{Waiting}
use Rattle.await_tree.specs.declared.wait_list.awaits.Awaits.{Ghosts as AwaitsGhosts}
use Rattle.rig_model.specs.declared.task.flow.Flow.{Ghosts as FlowGhosts}
use Rattle.rig_model.specs.declared.task.flow.FlowMaker.{Ghosts as MakerGhosts}
use Rattle.rig_model.specs.Run.Rig.{Rig}
use Rattle.rig_model.specs.Parts.Queue.{Queue}
use Rattle.run_state.specs.Queue.Fits.{queue_of}
use Rattle.run_state.specs.TestTasks.Tasks.{live_in}
use Rattle.scheduler.specs.declared.test.RunningTest.{RunningTest}

-- what the types of a running test mean: the functions of a maker's file, the file of a flow and its task, who waits and which keys are held
pub record Means (M W F : Type 0) : Type 0 where
  pub functions : M → List Function
  pub file : F → List Function
  pub task : F → Task
  pub waiting : W → List Waiting
  pub held : W → List Key

-- those of a type that makes tasks, of the tasks that it makes, and of a type that keeps who waits
abbrev pub means : {M W F : Type 0} → MakerGhosts M F → FlowGhosts F → AwaitsGhosts W → Means M W F
means maker flow awaits
    = record { functions = maker.functions; file = flow.functions; task = flow.meaning; waiting = awaits.waiting; held = awaits.held }

-- what a test has besides its queue
pub record Parts : Type 0 where
  pub tasks : List Task
  pub endings : Endings
  pub objects : States
  pub queues : List TaskQueue
  pub random : Generator

-- the configuration of these parts, of a queue and of what a simulator holds, in which no task has its turn
abbrev pub rig_by : Parts → Queue → Content → Rig
rig_by p q content = record {
  sim = content.state;
  tasks = p.tasks;
  endings = p.endings;
  running = None;
  ready = q.ready;
  waiting = q.waiting;
  objects = p.objects;
  queues = p.queues;
  staged = q.staged;
  fired = [];
  deadline = q.deadline;
  planned = q.planned;
  random = p.random;
  counts = content.counts;
  outcome = None;
}

abbrev pub parts_of : {M W F : Type 0} → Means M W F → RunningTest M W F → Parts
parts_of m t = record { tasks = live_in m.task t.tasks; endings = t.tasks.ended; objects = t.objects; queues = t.queues; random = t.random }

-- The configuration between the things that tasks want, where the turn is taken from the task that wanted the last one.
abbrev pub rig_of : {M W F : Type 0} → Means M W F → RunningTest M W F → Content → Rig
rig_of m t content = rig_by (parts_of m t) (queue_of m.waiting t.queue) content

-- R relates the configuration before with the one after: that of the test and the simulator before, and of the two after.
abbrev pub Relates : {M W F K : Type 0} → Means M W F → GpiGhosts K → (Rig → Rig → Type 0) → RunningTest M W F → K → RunningTest M W F → K → Type 0
Relates m gpi R before kernel after kernel' = R (rig_of m before (gpi.content kernel)) (rig_of m after (gpi.content kernel'))

-- the same of a step that is no matter of the simulator, whatever it holds
abbrev pub RelatesAside : {M W F : Type 0} → Means M W F → (Rig → Rig → Type 0) → RunningTest M W F → RunningTest M W F → Type 0
RelatesAside m R before after = (content : Content) → R (rig_of m before content) (rig_of m after content)
