-- A step keeps all times within the bound.
use Rattle.std.proofs.Common.{ℕ, ◌≤◌, Bool, true, false, List, [], ◌∷◌, ◌++◌, Option, None, Some, arith}
use Rattle.std.specs.Prelude.{IfSome}
use Rattle.gpi.specs.Events.{Event}
use Rattle.await_tree.specs.Check.{last_time}
use Rattle.rig_model.specs.Task.Frame.{Task}
use Rattle.rig_model.specs.Task.Step.{next}
use Rattle.await_tree.specs.declared.wait_list.ready.Entry.{Entry}
use Rattle.await_tree.specs.WaitList.Waiting.{keys_of, time_key, phase_key, named}
use Rattle.rig_model.specs.Run.Rig.{Rig, Setup, Running, is_any, held, awaited, procs, event_of, view_of}
use Rattle.rig_model.specs.Run.Step.{task_at, taken, stepped, kept, after_event, resumed, chosen, rig_step}
use Rattle.scheduler.specs.Timely.{AreTimely, IsTimely}
use Rattle.scheduler.proofs.Keys.{none, both, filtered, one_more, later}
use Rattle.scheduler.proofs.Events.{Comes, event_comes}
use Rattle.scheduler.proofs.Effects.{at_state, serve_timely, wish_timely}

-- ---- awaited keys

phase_timely : (bound : ℕ) (b : Bool) → AreTimely bound (phase_key b)
phase_timely bound true = λ (due : ℕ) (e : _). absurd (cc)
phase_timely bound false = none bound

time_timely : (bound : ℕ) (o : Option ℕ) → IfSome o (λ (due : ℕ). due ≤ bound) → AreTimely bound (time_key o)
time_timely bound None h = none bound
time_timely bound (Some t) h = one_more bound t [] h (none bound)

-- what is so late is within any later bound
later_due : (o : Option ℕ) (latest bound : ℕ) → latest ≤ bound → IfSome o (λ (due : ℕ). due ≤ latest) → IfSome o (λ (due : ℕ). due ≤ bound)
later_due None latest bound l h = tt
later_due (Some t) latest bound l h = omega arith

pub wider : (bound more : ℕ) (c : Rig) → bound ≤ more → IsTimely bound c → IsTimely more c
wider bound more c l h = record {
  time = omega (arith, h.time);
  updates = h.updates;
  leaves = h.leaves;
  deadline = h.deadline;
  planned = later_due c.planned bound more l h.planned;
}

module _ (setup : Setup) (bound : ℕ) (wide : last_time ≤ bound) where
  abbrev Timely : Rig → Type 0
  Timely c = IsTimely bound c

  held_timely : (c : Rig) → Timely c → AreTimely bound (held c)
  held_timely c h =
      both bound (phase_key (is_any c.staged) ++ time_key c.deadline) (time_key c.planned)
      (both bound (phase_key (is_any c.staged)) (time_key c.deadline) (phase_timely bound (is_any c.staged))
      (time_timely bound c.deadline (later_due c.deadline last_time bound wide h.deadline)))
      (time_timely bound c.planned h.planned)

  awaited_timely : (c : Rig) → Timely c → AreTimely bound (awaited c)
  awaited_timely c h =
      filtered bound _ (named c.waiting (held c))
      (both bound (keys_of c.waiting) (held c) (later last_time bound (keys_of c.waiting) wide h.leaves) (held_timely c h))

  -- ---- steps

  stepped_timely : (r : Running) (o : Option Task) (c : Rig) → Timely c → Timely (stepped setup r o c).rig
  stepped_timely r None c h = h
  stepped_timely r (Some task) c h =
      wish_timely bound setup r.task (next setup.functions task r.given (view_of setup c)).turned
      (kept r.task (next setup.functions task r.given (view_of setup c)).task c) h

  after_timely : (o : Option Event) (c : Rig) → IfSome o (Comes bound) → Timely c → Timely (after_event setup o c).rig
  after_timely None c k h = h
  after_timely (Some e) c k h = serve_timely bound setup e.fired (record c { sim = e.state }) (at_state bound e.state c k h)

  chosen_timely : (running : Option Running) (ready : List Entry) (c : Rig) → Timely c → Timely (chosen setup running ready c).rig
  chosen_timely (Some r) ready c h = stepped_timely r (task_at r.task c.tasks) c h
  chosen_timely None (e ∷ es) c h = stepped_timely (taken c e) (task_at e.task c.tasks) (resumed e es c) h
  chosen_timely None [] c h =
      after_timely (event_of setup c) c
      (event_comes bound (procs setup) c.sim (awaited c) (omega (arith, wide)) (record { time = h.time; updates = h.updates }) (awaited_timely c h)) h

pub step_timely : (setup : Setup) (bound : ℕ) (c : Rig) → last_time ≤ bound → IsTimely bound c → IsTimely bound (rig_step setup c).rig
step_timely setup bound c wide h = chosen_timely setup bound wide c.running c.ready c h
