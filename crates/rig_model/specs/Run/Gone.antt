-- A means of proof: what is left of a task that was killed, and of a test that ended, for the proofs of the runner.
use Rattle.std.specs.Prelude.{◌≡◌, ◌||◌, Bool, false, List, [], ◌∷◌, None}
use Rattle.py_value.specs.declared.trigger.TaskNo.{TaskNo}
use Rattle.await_tree.specs.SyncObjects.States.{none}
use Rattle.rig_model.specs.Task.Frame.{Task}
use Rattle.await_tree.specs.WaitList.Ring.{has_entry}
use Rattle.await_tree.specs.WaitList.Waiting.{is_waiting}
use Rattle.rig_model.specs.Run.Rig.{Rig, awaited}
use Rattle.rig_model.specs.Run.Effect.{is_numbered}

abbrev pub is_live : TaskNo → List Task → Bool
is_live task [] = false
is_live task (t ∷ ts) = is_numbered task t || is_live task ts

-- The task has no entry, no tree, and is no live one.
pub record IsGone (task : TaskNo) (c : Rig) : Type 0 where
  pub not_ready : has_entry task c.ready ≡ false
  pub not_waiting : is_waiting task c.waiting ≡ false
  pub not_live : is_live task c.tasks ≡ false

-- Nothing of a test is left, and no start is planned.
pub record IsEmpty (c : Rig) : Type 0 where
  pub tasks : c.tasks ≡ []
  pub endings : c.endings ≡ []
  pub running : c.running ≡ None
  pub ready : c.ready ≡ []
  pub waiting : c.waiting ≡ []
  pub objects : c.objects ≡ none
  pub queues : c.queues ≡ []
  pub staged : c.staged ≡ []
  pub fired : c.fired ≡ []
  pub deadline : c.deadline ≡ None
  pub planned : c.planned ≡ None
  pub outcome : c.outcome ≡ None
  pub awaited : awaited c ≡ []
