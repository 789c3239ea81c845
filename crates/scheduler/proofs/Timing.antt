-- How late steps come, and whether a start is planned.
use Rattle.std.proofs.Common.{◌≡◌, ℕ, zero, suc, ◌-◌, ◌≤◌, Bool, true, false, List, [], ◌∷◌, Option, None, Some, refl, sym, subst, ◌∙◌, arith}
use Rattle.gpi.specs.Events.{Event}
use Rattle.gpi.specs.Keys.{among, set_of}
use Rattle.gpi.specs.Limits.{latest_time}
use Rattle.gpi.specs.declared.types.Key.{Key}
use Rattle.gpi.specs.declared.types.Key.TheVariants.{ReadWrite}
use Rattle.gpi.specs.declared.types.SigId.{SigId}
use Rattle.gpi.specs.declared.types.Write.{Write}
use Rattle.await_tree.specs.Check.{last_time}
use Rattle.run_view.specs.declared.signal_port.staged.Staged.{Staged}
use Rattle.rig_model.specs.Run.Rig.{Rig, Setup, awaited}
use Rattle.rig_model.specs.Run.Serve.{with_fired, not_due, is_due, deposit, flushed, flushed_if, ended_if, served, written}
use Rattle.rig_model.specs.Run.Step.{rig_step, evented}
use Rattle.rig_model.specs.Parts.Steps.{FitSteps, Moves}
use Rattle.scheduler.specs.Timely.{IsTimely}
use Rattle.scheduler.proofs.Steps.{step_timely}
use Rattle.scheduler.proofs.Planned.{serve_keys_planned}

-- ---- times

pub within : last_time ≤ latest_time
within = omega arith

fit_timely : (from : Rig → Bool) (setup : Setup) (n fuel : ℕ) (c : Rig) (lines : List (List ℕ)) (fuel' : ℕ) (d : Rig)
    → FitSteps from setup n fuel c lines fuel' d → IsTimely latest_time c → IsTimely latest_time d
unfolding FitSteps
fit_timely from setup zero fuel c lines fuel' d h t = subst (IsTimely latest_time) (sym h.2) t
fit_timely from setup (suc n) fuel c lines fuel' d h t =
    fit_timely from setup n (fuel - (rig_step setup c).cost) (rig_step setup c).rig h.0 fuel' d h.5 (step_timely setup latest_time c within t)

pub moves_timely : (from : Rig → Bool) (setup : Setup) (fuel : ℕ) (c : Rig) (lines : List (List ℕ)) (fuel' : ℕ) (d : Rig)
    → Moves (FitSteps from setup) fuel c lines fuel' d → IsTimely latest_time c → IsTimely latest_time d
moves_timely from setup fuel c lines fuel' d m t = fit_timely from setup (suc m.count) fuel c lines fuel' d m.steps t

-- ---- planned starts

not_due_none : (keys : List Key) (time : Option ℕ) → time ≡ None → not_due keys time ≡ None
not_due_none keys None h = refl
not_due_none keys (Some t) h = cc

deposit_planned : (setup : Setup) (sig : SigId) (act : Write) (c : Rig) → c.planned ≡ None → (deposit setup sig act c).rig.planned ≡ None
deposit_planned setup sig act c h =
    let e : Event = written setup c.sim (set_of (awaited c)) sig act in
    serve_keys_planned e.fired c.fired (with_fired e.fired (record c { sim = e.state })) ∙ not_due_none e.fired c.planned h

flushed_planned : (setup : Setup) (ws : List Staged) (c : Rig) → c.planned ≡ None → (flushed setup ws c).rig.planned ≡ None
flushed_planned setup [] c h = h
flushed_planned setup (w ∷ ws) c h =
    flushed_planned setup ws (deposit setup w.sig w.act (record c { staged = ws })).rig (deposit_planned setup w.sig w.act (record c { staged = ws }) h)

flush_planned : (setup : Setup) (b : Bool) (c : Rig) → c.planned ≡ None → (flushed_if setup b c).rig.planned ≡ None
flush_planned setup true c h = flushed_planned setup c.staged c h
flush_planned setup false c h = h

ended_planned : (b : Bool) (c : Rig) → (ended_if b c).rig.planned ≡ c.planned
ended_planned true c = refl
ended_planned false c = refl

-- an event plans none
pub evented_planned : (setup : Setup) (e : Event) (c : Rig) → c.planned ≡ None → (evented setup e c).rig.planned ≡ None
evented_planned setup e c h =
    let d : Rig = (flushed_if setup (among ReadWrite e.fired) (with_fired e.fired (record c { sim = e.state }))).rig in
    ended_planned (is_due e.fired c.deadline) (served e.fired c.fired d).rig
    ∙ serve_keys_planned e.fired c.fired d
    ∙ flush_planned setup (among ReadWrite e.fired) (with_fired e.fired (record c { sim = e.state })) (not_due_none e.fired c.planned h)
