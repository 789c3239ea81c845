-- A means of proof: when a running test and a simulator fit, for the proofs of the runner's turns.
use Rattle.std.specs.Prelude.{◌≡◌, ◌≤◌, ◌+◌, length, Option, None, Some, Ok}
use Rattle.gpi.specs.Content.{Content}
use Rattle.gpi.specs.declared.design.Flat.{Flat}
use Rattle.gpi.specs.declared.interface.Gpi.{Ghosts as GpiGhosts}
use Rattle.py_value.specs.declared.trigger.TaskNo.{TaskNo}
use Rattle.run_state.specs.LiveTasks.Flows.{meanings}
use Rattle.run_state.specs.TestTasks.Tasks.{IsWhole, live_in}
use Rattle.run_view.specs.View.{HaveEvents}
use Rattle.rig_model.specs.declared.task.task.Turned.{Turned}
use Rattle.rig_model.specs.Run.Rig.{Setup}
use Rattle.scheduler.specs.EffectLaws.Stands.{StandsIn}
use Rattle.run_state.specs.Queue.Fits.{Fits, Keeps}
use Rattle.scheduler.specs.declared.turned.Next.{Next}
use Rattle.scheduler.specs.declared.turned.Next.TheVariants.{GoesOn, Ends}
use Rattle.scheduler.specs.declared.turned.Turn.{Turn}
use Rattle.scheduler.specs.declared.turned.Turn.TheVariants.{Went, Due, Over, Spent, WriteFault}
use Rattle.scheduler.specs.Parts.{Means, rig_of}
use Rattle.scheduler.specs.Turns.{LeadsTo, next_fault}
use Rattle.scheduler.specs.declared.test.RunningTest.{RunningTest}

-- The tasks are whole, and there is room in the ring for each that lives.
pub record HasRoom {M W F : Type 0} (m : Means M W F) (t : RunningTest M W F) : Type 0 where
  pub whole : IsWhole m.functions (meanings m.file m.task) t.tasks
  pub room_is : length (live_in m.task t.tasks) ≤ t.queue.ready.room

-- A test on this design and a simulator fit, where this task has its turn.
pub record FitsAt (turn : Option TaskNo) (flat : Flat) {M W F : Type 0} (m : Means M W F) (t : RunningTest M W F) (content : Content) : Type 0 where
  pub queue : Fits flat m.waiting m.held t.queue content
  pub room : HasRoom m t
  pub stands : StandsIn turn (rig_of m t content)

-- after the end of a turn; after a failed put nothing more is run
abbrev pub FitsAfter : Turn → Flat → {M W F : Type 0} → Means M W F → RunningTest M W F → Content → Type 0
FitsAfter Went flat m t content = FitsAt None flat m t content
FitsAfter Due flat m t content = FitsAt None flat m t content
FitsAfter (Over outcome) flat m t content = FitsAt None flat m t content
FitsAfter Spent flat m t content = FitsAt None flat m t content
FitsAfter WriteFault flat m t content = Unit {0}

-- after something that a task wanted, it has its turn still, or the turn ends
abbrev pub FitsNext : TaskNo → Next → Flat → {M W F : Type 0} → Means M W F → RunningTest M W F → Content → Type 0
FitsNext task (GoesOn given) flat m t content = FitsAt (Some task) flat m t content
FitsNext task (Ends turn) flat m t content = FitsAfter turn flat m t content

-- What stays whatever a call answers: the simulator holds a design, the registered keys are the awaited ones, and the maker of tasks is the same.
pub record Kept {M W F K : Type 0} (m : Means M W F) (gpi : GpiGhosts K) (before after : RunningTest M W F) (kernel : K) : Type 0 where
  pub loaded : gpi.is_loaded kernel
  pub keeps : Keeps m.waiting m.held after.queue (gpi.content kernel)
  pub maker : after.tasks.maker ≡ before.tasks.maker

-- Both events of each queue were made, and there are two events for each queue.
pub record HasQueues {M W F : Type 0} (t : RunningTest M W F) : Type 0 where
  pub made : HaveEvents t.objects t.queues
  pub few : length t.queues + length t.queues ≤ length t.objects.events

-- where queue and simulator fitted on a design they still do
abbrev pub StaysFit : {M W F : Type 0} → Means M W F → RunningTest M W F → Content → RunningTest M W F → Content → Type 0
StaysFit m t content t' content' = (flat : Flat) → Fits flat m.waiting m.held t.queue content → Fits flat m.waiting m.held t'.queue content'

-- ---- what a task wants

-- What is asked of a test and a simulator in which this task has its turn, and wants something: the simulator holds a design, the registered
-- keys are the awaited ones, the tasks have room, and this one stands in no other place.
pub record HasTurn {M W F K : Type 0} (m : Means M W F) (gpi : GpiGhosts K) (task : TaskNo) (t : RunningTest M W F) (kernel : K) : Type 0 where
  pub loaded : gpi.is_loaded kernel
  pub keeps : Keeps m.waiting m.held t.queue (gpi.content kernel)
  pub room : HasRoom m t
  pub stands : StandsIn (Some task) (rig_of m t (gpi.content kernel))

-- What a task wanted leads from one test and simulator to the other, whatever the tests share: no put failed, and the tasks have room again.
pub record LeadsOn {M W F K : Type 0} (m : Means M W F) (gpi : GpiGhosts K) (task : TaskNo) (turned : Turned) (before : RunningTest M W F)
    (kernel : K) (next : Next) (after : RunningTest M W F) (kernel' : K) : Type 0 where
  pub effect : (setup : Setup) → LeadsTo setup task turned (rig_of m before (gpi.content kernel)) next (rig_of m after (gpi.content kernel'))
  pub fine : next_fault (Ok next) ≡ None
  pub room : HasRoom m after

-- What stays whatever a call answers, and where queue and simulator fitted on a design they still do.
pub record KeptFit {M W F K : Type 0} (m : Means M W F) (gpi : GpiGhosts K) (before : RunningTest M W F) (kernel : K)
    (after : RunningTest M W F) (kernel' : K) : Type 0 where
  pub fits : StaysFit m before (gpi.content kernel) after (gpi.content kernel')
  pub kept : Kept m gpi before after kernel'

-- What stays where tasks are started, which is no matter of the simulator, whatever it holds.
pub record KeptAside {M W F : Type 0} (m : Means M W F) (before after : RunningTest M W F) : Type 0 where
  pub fits : (content : Content) → StaysFit m before content after content
  pub keeps : (content : Content) → Keeps m.waiting m.held before.queue content → Keeps m.waiting m.held after.queue content
  pub maker : after.tasks.maker ≡ before.tasks.maker
