-- A turn in which no task runs and none is ready is one event.
use Rattle.std.proofs.Common.{◌≡◌, ℕ, zero, suc, Bool, true, false, List, [], ◌∷◌, ◌++◌, Option, None, Some, refl, ap, sym, ◌∙◌}
use Rattle.std.specs.Prelude.{is_some}
use Rattle.gpi.specs.Keys.{among, set_of}
use Rattle.gpi.specs.Events.{Event}
use Rattle.gpi.specs.declared.types.SigId.{SigId}
use Rattle.gpi.specs.declared.types.Write.{Write}
use Rattle.gpi.specs.declared.types.Key.{Key}
use Rattle.gpi.specs.declared.types.Key.TheVariants.{ReadWrite}
use Rattle.await_tree.specs.declared.cause.Cause.TheVariants as cause
use Rattle.run_view.specs.declared.signal_port.staged.Staged.{Staged}
use Rattle.await_tree.specs.declared.wait_list.ready.Entry.{Entry}
use Rattle.rig_model.specs.Run.Rig.{Rig, Setup, Running, event_of, awaited}
use Rattle.rig_model.specs.Run.Serve.{wake, serve_keys, with_fired, after_put, deposit, flushed, flushed_if, ended_if, is_due, serve, written}
use Rattle.rig_model.specs.Run.Step.{chosen, after_event, rig_step}
use Rattle.rig_model.specs.Parts.Steps.{FitSteps, TurnSteps, in_turn}

serve_keys_running : (keys others : List Key) (c : Rig) → (serve_keys keys others c).running ≡ c.running
serve_keys_running [] others c = refl
serve_keys_running (k ∷ ks) others c = serve_keys_running ks others (record (wake (cause.Key k) c) { fired = others ++ ks })

put_running : (setup : Setup) (e : Event) (c : Rig) → (after_put setup e c).rig.running ≡ c.running
put_running setup e c = serve_keys_running e.fired c.fired (with_fired e.fired (record c { sim = e.state }))

deposit_running : (setup : Setup) (sig : SigId) (act : Write) (c : Rig) → (deposit setup sig act c).rig.running ≡ c.running
deposit_running setup sig act c = put_running setup (written setup c.sim (set_of (awaited c)) sig act) c

flushed_running : (setup : Setup) (writes : List Staged) (c : Rig) → (flushed setup writes c).rig.running ≡ c.running
flushed_running setup [] c = refl
flushed_running setup (w ∷ ws) c =
    flushed_running setup ws (deposit setup w.sig w.act (record c { staged = ws })).rig ∙ deposit_running setup w.sig w.act (record c { staged = ws })

flushed_if_running : (setup : Setup) (b : Bool) (c : Rig) → (flushed_if setup b c).rig.running ≡ c.running
flushed_if_running setup true c = flushed_running setup c.staged c
flushed_if_running setup false c = refl

ended_if_running : (b : Bool) (c : Rig) → (ended_if b c).rig.running ≡ c.running
ended_if_running true c = refl
ended_if_running false c = refl

serve_running : (setup : Setup) (keys : List Key) (c : Rig) → (serve setup keys c).rig.running ≡ c.running
serve_running setup keys c =
    ended_if_running (is_due keys c.deadline) _ ∙ serve_keys_running keys c.fired _ ∙ flushed_if_running setup (among ReadWrite keys) (with_fired keys c)

event_running : (setup : Setup) (e : Option Event) (c : Rig) → (after_event setup e c).rig.running ≡ c.running
event_running setup None c = refl
event_running setup (Some e) c = serve_running setup e.fired (record c { sim = e.state })

step_running : (setup : Setup) (running : Option Running) (ready : List Entry) (c : Rig) → c.running ≡ running → running ≡ None → ready ≡ []
    → (chosen setup running ready c).rig.running ≡ None
step_running setup (Some r) ready c e h k = cc
step_running setup None (x ∷ xs) c e h k = cc
step_running setup None [] c e h k = event_running setup (event_of setup c) c ∙ e

pub one_step : (setup : Setup) (n fuel : ℕ) (c : Rig) (lines : List (List ℕ)) (fuel' : ℕ) (d : Rig) → c.running ≡ None → c.ready ≡ []
    → TurnSteps setup (suc n) fuel c lines fuel' d → n ≡ 0
unfolding TurnSteps FitSteps
one_step setup zero fuel c lines fuel' d r e h = refl
one_step setup (suc n) fuel c lines fuel' d r e h =
    let runs : in_turn (rig_step setup c).rig ≡ true = h.4.1 in
    let none : (rig_step setup c).rig.running ≡ None = step_running setup c.running c.ready c refl r e in
    let no : false ≡ true = sym (ap (λ (x : Option Running). is_some x) none) ∙ runs in
    cc
