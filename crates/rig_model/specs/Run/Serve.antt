-- How fired keys, events and ended tasks are served (cocotb 1.8, "Triggers").
use Rattle.std.specs.Prelude.{ℕ, Bool, true, false, List, [], ◌∷◌, ◌++◌, Option, None, Some, if◌then◌else◌}
use Rattle.gpi.specs.Keys.{Keys, among, set_of}
use Rattle.gpi.specs.Events.{Event, put, force, release, value_at}
use Rattle.gpi.specs.State.{State}
use Rattle.gpi.specs.declared.types.Key.{Key}
use Rattle.gpi.specs.declared.types.Key.TheVariants.{ReadWrite, At}
use Rattle.gpi.specs.declared.types.SigId.{SigId}
use Rattle.gpi.specs.declared.types.Write.{Write}
use Rattle.gpi.specs.declared.types.Write.TheVariants as write
use Rattle.py_syntax.specs.declared.fault_kind.FaultKind.TheVariants.{SimTimeoutError}
use Rattle.py_value.specs.Answer.{plain_fault}
use Rattle.await_tree.specs.declared.cause.Cause.{Cause}
use Rattle.await_tree.specs.declared.cause.Cause.TheVariants as cause
use Rattle.run_view.specs.declared.signal_port.staged.Staged.{Staged}
use Rattle.await_tree.specs.WaitList.Waiting.{woken, still_waiting}
use Rattle.rig_model.specs.Run.Rig.{Rig, Setup, After, quiet, followed_by, awaited, procs, nets, told_lines}
use Rattle.rig_model.specs.Run.Counts.{counted}
use Rattle.rig_model.specs.declared.run.outcome.Outcome.TheVariants as outcome

-- All waiting leaves on the cause are reached; the tasks whose trees are done go to the back of the ready list, in the order in which they began to wait.
abbrev pub wake : Cause → Rig → Rig
wake on c = record c { waiting = still_waiting on c.waiting; ready = c.ready ++ woken on c.waiting }

-- each of these keys is served, in order, and is then a fired key no more; the others are those that had fired before
abbrev pub serve_keys : List Key → List Key → Rig → Rig
serve_keys [] others c = record c { fired = others }
serve_keys (k ∷ ks) others c = serve_keys ks others (record (wake (cause.Key k) c) { fired = others ++ ks })

-- the time is among the keys
abbrev pub is_due : List Key → Option ℕ → Bool
is_due keys None = false
is_due keys (Some time) = among (At time) keys

abbrev pub not_due : List Key → Option ℕ → Option ℕ
not_due keys time = if is_due keys time then None else time

-- these keys are fired keys that aren't served yet; a deadline or a planned start among them is none any more
abbrev pub with_fired : List Key → Rig → Rig
with_fired keys c = record c { fired = c.fired ++ keys; deadline = not_due keys c.deadline; planned = not_due keys c.planned }

-- A write that is done: a value is deposited, a force takes its digits or, of a freeze, those that are shown, and a release ends a force (IEEE
-- 1364-2005, clause 9.3.2).
abbrev pub written : Setup → State → Keys → SigId → Write → Event
written setup s keys sig (write.Plain bits) = put (procs setup) s keys sig bits
written setup s keys sig (write.Force bits) = force (procs setup) s keys sig bits
written setup s keys sig write.Freeze = force (procs setup) s keys sig (value_at s sig)
written setup s keys sig write.Release = release (procs setup) (nets setup) s keys sig

-- A write is done, its change is told, and the keys of that change are served: one effect.
abbrev pub after_put : Setup → Event → Rig → After
after_put setup e c = record {
  rig = counted e.fired c (serve_keys e.fired c.fired (with_fired e.fired (record c { sim = e.state })));
  lines = told_lines setup c.sim.time e.told;
}

-- a signal is written at once, where the awaited keys are registered
abbrev pub deposit : Setup → SigId → Write → Rig → After
deposit setup sig act c = after_put setup (written setup c.sim (set_of (awaited c)) sig act) c

-- the staged writes leave the list and go out one after the other, each with the wakes of its fired keys
abbrev pub flushed : Setup → List Staged → Rig → After
flushed setup [] c = quiet c
flushed setup (w ∷ writes) c = followed_by (deposit setup w.sig w.act (record c { staged = writes })) (flushed setup writes)

abbrev pub flushed_if : Setup → Bool → Rig → After
flushed_if setup true c = flushed setup c.staged c
flushed_if setup false c = quiet c

-- these keys, which fired, are served: one effect; the others had fired before
abbrev pub served : List Key → List Key → Rig → After
served keys others c = quiet (counted keys c (serve_keys keys others c))

-- a deadline that fired ends the test (cocotb 1.8, `cocotb.test`, `timeout_time`)
abbrev pub ended_if : Bool → Rig → After
ended_if true c = quiet (record c { outcome = Some (outcome.Raised (plain_fault SimTimeoutError)) })
ended_if false c = quiet c

-- The keys become fired keys; the staged writes go out if the read-write phase is among them; then each key is served in order.
-- So the tasks that wait for that phase are woken after the last write. A deadline that fired ends the test thereafter.
abbrev pub serve : Setup → List Key → Rig → After
serve setup keys c =
    followed_by (followed_by (flushed_if setup (among ReadWrite keys) (with_fired keys c)) (served keys c.fired)) (ended_if (is_due keys c.deadline))
