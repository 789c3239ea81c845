-- A means of proof: where the tasks of a configuration stand, for the laws of what runs reach.
use Rattle.std.specs.Prelude.{◌≡◌, ℕ, ◌+◌, ◌<◌, ◌≤◌, ◌==◌, ◌⊎◌, false, length, All, Option, None, Some, IfSome, IsSome, count_by}
use Rattle.std.specs.Option.{option_map}
use Rattle.py_value.specs.declared.trigger.TaskNo.{TaskNo}
use Rattle.gpi.specs.declared.types.SigId.{SigId}
use Rattle.await_tree.specs.EndedTasks.Endings.{ending_of, is_done}
use Rattle.await_tree.specs.declared.ended_tasks.ending.Ending.{Ending}
use Rattle.await_tree.specs.WaitList.Ring.{is_entry_of}
use Rattle.await_tree.specs.WaitList.Waiting.{Waiting, is_joined, is_of}
use Rattle.await_tree.specs.declared.wait_list.ready.Entry.{Entry}
use Rattle.rig_model.specs.Parts.Placed.{one_if}
use Rattle.rig_model.specs.Run.Effect.{is_numbered}
use Rattle.rig_model.specs.Run.Gone.{IsGone}
use Rattle.rig_model.specs.Run.Rig.{Rig, Running}
use Rattle.rig_model.specs.Run.Step.{task_at}
use Rattle.rig_model.specs.declared.run.outcome.Outcome.TheVariants.{ReadOnlyWrite}

-- ---- places

-- 1 where it is this task, and 0 where it is another or none
abbrev pub one_of : TaskNo → Option TaskNo → ℕ
one_of task None = 0
one_of task (Some own) = one_if (own.0 == task.0)

-- the task that has its turn
abbrev pub turn_of : Option Running → Option TaskNo
turn_of running = option_map (λ (r : Running). r.task) running

-- How many places a task has: its turn, its entries among those that are ready, its trees among those that wait, and one where it has ended.
abbrev pub places : TaskNo → Rig → ℕ
places task c = one_of task (turn_of c.running) + count_by (is_entry_of task) c.ready + count_by (is_of task) c.waiting + one_if (is_done task c.endings)

-- Each task that was started has one place, but for one that is lost: it has none. No other has a place. Those live that were started and haven't ended.
pub record StandApart (lost : Option TaskNo) (c : Rig) : Type 0 where
  pub one : (task : TaskNo) → task.0 < length c.endings → one_of task lost + places task c ≡ 1
  pub none : (task : TaskNo) → length c.endings ≤ task.0 → places task c ≡ 0
  pub live : (task : TaskNo) → task.0 < length c.endings → count_by (is_numbered task) c.tasks + one_if (is_done task c.endings) ≡ 1
  pub no_other : (task : TaskNo) → length c.endings ≤ task.0 → count_by (is_numbered task) c.tasks ≡ 0

-- The test was ended by a write in the read-only phase: the task that wrote lives, isn't given anything, and has no place.
pub record HasLost (c : Rig) : Type 0 where
  pub sig : SigId
  pub ended : c.outcome ≡ Some (ReadOnlyWrite sig)
  pub writer : TaskNo
  pub lives : IsSome (task_at writer c.tasks)
  pub rest : StandApart (Some writer) c

-- Each task has its turn, is ready, waits or has ended, one of these and once; but for the task whose write has ended the test.
abbrev pub AreInPlace : Rig → Type 0
AreInPlace c = StandApart None c ⊎ HasLost c

-- ---- who lives

-- The task that has its turn, those that are ready, and those that wait are live: no step finds that a turn is one of a task that isn't.
pub record AreLive (c : Rig) : Type 0 where
  pub running : IfSome c.running (λ (r : Running). IsSome (task_at r.task c.tasks))
  pub ready : All (λ (e : Entry). IsSome (task_at e.task c.tasks)) c.ready
  pub waiting : All (λ (w : Waiting). IsSome (task_at w.task c.tasks)) c.waiting

-- ---- who has ended

-- each task that has ended stays as it ended
abbrev pub KeepEndings : Rig → Rig → Type 0
KeepEndings before after = (task : TaskNo) (ending : Ending) → ending_of task before.endings ≡ Some ending → ending_of task after.endings ≡ Some ending

-- The task has neither an entry nor a tree, isn't live, hasn't its turn, and no leaf that waits joins it.
pub record IsOut (task : TaskNo) (c : Rig) : Type 0 where
  pub gone : IsGone task c
  pub no_turn : one_of task (turn_of c.running) ≡ 0
  pub unjoined : is_joined task c.waiting ≡ false
