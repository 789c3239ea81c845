-- A means of proof: what the calls do to a queue, and to a configuration, for the proofs of the runner's queue.
use Rattle.std.specs.Prelude.{ℕ, true, false, List, [], ◌∷◌, ◌++◌, None, Some}
use Rattle.gpi.specs.declared.types.SigId.{SigId}
use Rattle.gpi.specs.declared.types.Write.{Write}
use Rattle.py_value.specs.declared.trigger.LockNo.{LockNo}
use Rattle.py_value.specs.declared.trigger.TaskNo.{TaskNo}
use Rattle.await_tree.specs.declared.cause.Cause.{Cause}
use Rattle.await_tree.specs.declared.cause.Cause.TheVariants as cause
use Rattle.await_tree.specs.declared.cause.Given.{Given}
use Rattle.run_view.specs.SignalPort.Staging.{restaged}
use Rattle.await_tree.specs.declared.wait_list.ready.Entry.{Entry}
use Rattle.rig_model.specs.Run.Counts.{counted}
use Rattle.rig_model.specs.Run.Effect.{handed_on, withdrawn}
use Rattle.rig_model.specs.Run.Rig.{Rig}
use Rattle.rig_model.specs.Run.Serve.{wake}
use Rattle.rig_model.specs.Parts.Queue.{Queue}

-- ---- of a queue

abbrev pub entry : TaskNo → Given → Entry
entry task given = record { task = task; given = given }

-- a task is ready, behind all others
abbrev pub with_ready : TaskNo → Given → Queue → Queue
with_ready task given q = record q { ready = q.ready ++ entry task given ∷ [] }

-- a task is ready, in front of all others
abbrev pub with_first : TaskNo → Given → Queue → Queue
with_first task given q = record q { ready = entry task given ∷ q.ready }

-- ---- of a configuration, each one effect

-- a write is staged
abbrev pub staging : SigId → Write → Rig → Rig
staging sig act c = counted [] c (record c { staged = restaged sig act c.staged })

-- all leaves on the cause are reached
abbrev pub waking : Cause → Rig → Rig
waking on c = counted [] c (wake on c)

-- the first task that wants the lock is handed it
abbrev pub granting : LockNo → Rig → Rig
granting lock c = counted [] c (handed_on true lock c)

-- a task leaves, and its joiners are served
abbrev pub killing : TaskNo → Rig → Rig
killing task c = counted [] c (wake (cause.Ended task false) (withdrawn task c))

-- the test is given up then
abbrev pub giving_up : ℕ → Rig → Rig
giving_up due c = counted [] c (record c { deadline = Some due })

-- the next test begins then
abbrev pub planning : ℕ → Rig → Rig
planning due c = counted [] c (record c { planned = Some due })

-- all is dropped
abbrev pub dropping : Rig → Rig
dropping c = counted [] c (record c { ready = []; waiting = []; staged = []; deadline = None; planned = None })
