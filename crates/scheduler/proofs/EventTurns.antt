-- An event, as a turn.
use Rattle.std.specs.Prelude.{is_none, is_some, ◌&&◌, not}
use Rattle.std.proofs.Common.{◌≡◌, ℕ, zero, suc, ◌-◌, ◌<◌, Bool, true, false, List, [], Option, None, Some, Result, Ok, Err, IsErr, refl, ap, sym, subst, arith, ◌∙◌}
use Rattle.port_io.specs.Means.{SinkMeans, PutsTo}
use Rattle.port_io.proofs.PartLaws.{part_none}
use Rattle.port_io.specs.declared.ports.NoMemory.{NoMemory}
use Rattle.port_io.specs.declared.ports.SinkFault.{SinkFault}
use Rattle.port_io.specs.declared.ports.SinkFault.TheVariants.{Failed, OutOfMemory}
use Rattle.gpi.specs.Content.{Content}
use Rattle.gpi.specs.Design.{Proc}
use Rattle.gpi.specs.Events.{Event, event, idle}
use Rattle.gpi.specs.Keys.{set_of}
use Rattle.gpi.specs.Limits.{latest_time}
use Rattle.gpi.specs.Terms.{widths_of}
use Rattle.gpi.specs.declared.types.Key.{Key}
use Rattle.gpi.proofs.SameKeys.{event_same}
use Rattle.await_tree.specs.declared.wait_list.ready.Entry.{Entry}
use Rattle.rig_model.specs.Run.Known.{IsKnown}
use Rattle.rig_model.specs.Run.Rig.{Rig, Running, Setup, event_of, procs}
use Rattle.rig_model.specs.Run.Serve.{ended_if}
use Rattle.rig_model.specs.Run.Step.{Stepped, rig_step, chosen, after_event, evented}
use Rattle.rig_model.specs.declared.run.outcome.Outcome.TheVariants as outcome
use Rattle.rig_model.proofs.RunLemmas.Known.{step_is_known}
use Rattle.rig_model.specs.Parts.Fits.{FitsQueue}
use Rattle.rig_model.specs.Parts.Queue.{Queue, queue_awaited, rig_at}
use Rattle.rig_model.specs.Parts.Steps.{TurnSteps, Moves, Begins}
use Rattle.run_state.proofs.QueueLemmas.Rekeys.{keys_awaited}
use Rattle.scheduler.proofs.DepositLaws.{has_set}
use Rattle.scheduler.specs.Timely.{IsTimely}
use Rattle.scheduler.proofs.Steps.{step_timely}
use Rattle.scheduler.proofs.StepLaws.{turn_one, turn_none}
use Rattle.scheduler.specs.Turns.{Turning, TurnsTo, turn_fault}
use Rattle.scheduler.specs.declared.turned.Turn.{Turn}
use Rattle.scheduler.specs.declared.turned.Turn.TheVariants.{Over, Spent}
use Rattle.scheduler.specs.EffectLaws.Stands.{StandsIn, StandsOwn, turn_of}
use Rattle.scheduler.proofs.EffectLawsLemmas.Effects.{evented_stands}
use Rattle.scheduler.specs.Events.{event_turn, IsEventTurn}
use Rattle.scheduler.proofs.Known.{known_over}
use Rattle.scheduler.proofs.Timing.{within, evented_planned}

no_event : (o : Option Event) → is_none o ≡ true → o ≡ None
no_event None h = refl
no_event (Some e) h = cc

some_event : (o : Option Event) → is_none o ≡ false → (e : Event) × (o ≡ Some e)
some_event None h = cc
some_event (Some e) h = (e, refl)

-- the next event of a simulator that fits a queue is that of the configuration
same_event : (setup : Setup) (room : ℕ) (held : List Key) (q : Queue) (k : Content) (c : Rig) → FitsQueue setup.flat room held q k
    → event_of setup (rig_at q k c) ≡ event k.procs k.state k.keys
same_event setup room held q k c f =
    event_same (procs setup) k.state (set_of (queue_awaited [] q)) k.keys
    (λ x. has_set (queue_awaited [] q) x ∙ sym (keys_awaited held q k (record { keys_are = f.keys_are; held_are = f.held_are }) x))
    ∙ ap (λ (ps : List Proc). event ps k.state k.keys) (sym f.procs_are)

-- memory was short before a first step
pub short_turning : {O : Type 0} (sink : SinkMeans O) (setup : Setup) (c : Rig) (fuel : ℕ) (out : O) (r : Result Turn NoMemory) (fuel' : ℕ) (e : Rig) (out' : O) → IsErr r → out' ≡ out
    → Turning sink (TurnSteps setup) setup fuel c out r fuel' e out'
unfolding TurnSteps
short_turning sink setup c fuel out (Ok t) fuel' e out' h same = cc
short_turning sink setup c fuel out (Err x) fuel' e out' h same =
    rw same (record { lines = []; turns = record { count = zero; left = fuel; last = c; steps = (refl, refl, refl) }; puts = part_none sink.takes sink.told out [] })

-- so is whether there is one
pub same_idle : (setup : Setup) (room : ℕ) (held : List Key) (q : Queue) (k : Content) (c : Rig) (answer b : Bool) → FitsQueue setup.flat room held q k
    → answer ≡ idle k.procs k.state k.keys → answer ≡ b → is_none (event_of setup (rig_at q k c)) ≡ b
same_idle setup room held q k c answer b f i h = ap is_none (same_event setup room held q k c f) ∙ sym i ∙ h

module _ (setup : Setup) (c : Rig) (runs : c.running ≡ None) (none : c.ready ≡ []) (goes : c.outcome ≡ None) where
  -- the step is that of the simulator
  step_is : (o : Option Event) → event_of setup c ≡ o → rig_step setup c ≡ after_event setup o c
  step_is o e =
      ap (λ r. chosen setup r c.ready c) runs
      ∙ ap (λ (r : List Entry). chosen setup None r c) none ∙ ap (λ (x : Option Event). after_event setup x c) e

  one_moves : (fuel : ℕ) (e : Event) → event_of setup c ≡ Some e → 0 < fuel → Moves (TurnSteps setup) fuel c (evented setup e c).lines (fuel - 1) (evented setup e c).rig
  one_moves fuel e h f = turn_one setup fuel c (evented setup e c) goes (step_is (Some e) h) (omega arith)

  begins_of : (fuel : ℕ) (lines : List (List ℕ)) (f : ℕ) (d : Rig) → Moves (TurnSteps setup) fuel c lines f d → Begins (TurnSteps setup) fuel c lines
  begins_of fuel lines f d m = record { count = suc m.count; left = f; last = d; steps = m.steps }

  -- nothing is left that could happen
  pub stalled_turning : {O : Type 0} (sink : SinkMeans O) (fuel : ℕ) (out : O) → is_none (event_of setup c) ≡ true → Turning sink (TurnSteps setup) setup fuel c out (Ok (Over outcome.Stalled)) fuel c out
  stalled_turning sink fuel out h =
      let z : fuel - 0 ≡ fuel = omega arith in
      record {
        lines = [];
        turns = subst (λ (f : ℕ). Moves (TurnSteps setup) fuel c [] f (record c { outcome = Some outcome.Stalled })) z
            (turn_one setup fuel c (record { rig = record c { outcome = Some outcome.Stalled }; lines = []; cost = 0 }) goes (step_is None (no_event (event_of setup c) h)) (omega arith));
        puts = refl;
      }

  -- no fuel is left for the event
  pub spent_turning : {O : Type 0} (sink : SinkMeans O) (fuel : ℕ) (out : O) → is_none (event_of setup c) ≡ false → fuel ≡ 0 → Turning sink (TurnSteps setup) setup fuel c out (Ok Spent) fuel c out
  spent_turning sink fuel out h f =
      let some : (e : Event) × (event_of setup c ≡ Some e) = some_event (event_of setup c) h in
      record { lines = []; turns = turn_none setup fuel c (evented setup some.0 c) goes (rw (runs, none) refl) (step_is (Some some.0) some.1) (omega arith); puts = refl }

  -- ---- the event was done

  module _ (e : Event) (next : event_of setup c ≡ Some e) (late : Bool) (d : Rig) (leads : (evented setup e c).rig ≡ (ended_if late d).rig) where
    -- a start stays planned, or has fired
    pub none_planned : c.planned ≡ None → d.planned ≡ None
    none_planned h = by_late late leads
      where
        by_late : (b : Bool) → (evented setup e c).rig ≡ (ended_if b d).rig → d.planned ≡ None
        by_late true l = sym (ap (λ (x : Rig). x.planned) l) ∙ evented_planned setup e c h
        by_late false l = sym (ap (λ (x : Rig). x.planned) l) ∙ evented_planned setup e c h

    same_planned : (a b : Option ℕ) → (a ≡ None → b ≡ None) → (is_some a && not (is_some b)) ≡ false → is_some b ≡ is_some a
    same_planned None b f h = ap is_some (f refl)
    same_planned (Some x) None f h = cc
    same_planned (Some x) (Some y) f h = refl

    fired_planned : (a b : Option ℕ) → (is_some a && not (is_some b)) ≡ true → (is_some a ≡ true) × (b ≡ None)
    fired_planned None b h = cc
    fired_planned (Some x) None h = (refl, refl)
    fired_planned (Some x) (Some y) h = cc

    module _ (fuel : ℕ) (some : 0 < fuel) where
      abbrev lines : List (List ℕ)
      lines = (evented setup e c).lines

      went_moves : (x : Rig) → (evented setup e c).rig ≡ x → Moves (TurnSteps setup) fuel c lines (fuel - 1) x
      went_moves x is = subst (λ (y : Rig). Moves (TurnSteps setup) fuel c lines (fuel - 1) y) is (one_moves fuel e next some)

      gone_turns : (b due : Bool) → (evented setup e c).rig ≡ (ended_if b d).rig → (is_some c.planned && not (is_some d.planned)) ≡ due
          → TurnsTo (TurnSteps setup) setup fuel c lines (Ok (event_turn b due)) (fuel - 1) d
      gone_turns true due l h = went_moves (ended_if true d).rig l
      gone_turns false true l h = let x : (is_some c.planned ≡ true) × (d.planned ≡ None) = fired_planned c.planned d.planned h in (went_moves d l, x.0, x.1)
      gone_turns false false l h = (went_moves d l, same_planned c.planned d.planned none_planned h)

      event_turns : (fault : Option SinkFault) (r : Result Turn NoMemory) → IsEventTurn fault late (is_some c.planned && not (is_some d.planned)) r
          → TurnsTo (TurnSteps setup) setup fuel c lines r (fuel - 1) d × (turn_fault r ≡ fault)
      event_turns None r h =
          rw h (gone_turns late (is_some c.planned && not (is_some d.planned)) leads refl, gone_fault late (is_some c.planned && not (is_some d.planned)))
        where
          gone_fault : (b due : Bool) → turn_fault (Ok (event_turn b due)) ≡ None
          gone_fault true due = refl
          gone_fault false true = refl
          gone_fault false false = refl
      event_turns (Some Failed) r h = rw h (begins_of fuel lines (fuel - 1) (ended_if late d).rig (went_moves (ended_if late d).rig leads), refl)
      event_turns (Some OutOfMemory) (Ok t) h = cc
      event_turns (Some OutOfMemory) (Err x) h = (begins_of fuel lines (fuel - 1) (ended_if late d).rig (went_moves (ended_if late d).rig leads), refl)

      pub event_turning : {O : Type 0} (sink : SinkMeans O) (out out' : O) (fault : Option SinkFault) (r : Result Turn NoMemory) → IsEventTurn fault late (is_some c.planned && not (is_some d.planned)) r → PutsTo sink out lines fault out'
          → Turning sink (TurnSteps setup) setup fuel c out r (fuel - 1) d out'
      event_turning sink out out' fault r h p =
          let t : TurnsTo (TurnSteps setup) setup fuel c lines r (fuel - 1) d × (turn_fault r ≡ fault) = event_turns fault r h in
          record { lines = lines; turns = t.0; puts = subst (λ (x : Option SinkFault). PutsTo sink out lines x out') (sym t.1) p }

    -- ---- what holds of the configuration that it leads to

    event_stepped : rig_step setup c ≡ evented setup e c
    event_stepped = step_is (Some e) next

    pub event_known : IsKnown setup c → widths_of d.sim.signals ≡ widths_of c.sim.signals → IsKnown setup d
    event_known k w = by_late late leads
      where
        known_step : widths_of (evented setup e c).rig.sim.signals ≡ widths_of c.sim.signals → IsKnown setup (evented setup e c).rig
        known_step v = subst (λ (s : Stepped). IsKnown setup s.rig) event_stepped (step_is_known setup c k (ap (λ (s : Stepped). widths_of s.rig.sim.signals) event_stepped ∙ v))

        by_late : (b : Bool) → (evented setup e c).rig ≡ (ended_if b d).rig → IsKnown setup d
        by_late true l = known_over setup d (Some _) (subst (IsKnown setup) l (known_step (ap (λ (x : Rig). widths_of x.sim.signals) l ∙ w)))
        by_late false l = subst (IsKnown setup) l (known_step (ap (λ (x : Rig). widths_of x.sim.signals) l ∙ w))

    pub event_timely : IsTimely latest_time c → IsTimely latest_time d
    event_timely i = by_late late leads
      where
        timely_step : IsTimely latest_time (evented setup e c).rig
        timely_step = subst (λ (s : Stepped). IsTimely latest_time s.rig) event_stepped (step_timely setup latest_time c within i)

        by_late : (b : Bool) → (evented setup e c).rig ≡ (ended_if b d).rig → IsTimely latest_time d
        by_late true l =
            let x : IsTimely latest_time (ended_if true d).rig = subst (IsTimely latest_time) l timely_step in
            record { time = x.time; updates = x.updates; leaves = x.leaves; deadline = x.deadline; planned = x.planned }
        by_late false l = subst (IsTimely latest_time) l timely_step

    pub event_stands : d.running ≡ None → StandsIn None c → StandsIn None d
    event_stands r h = by_late late leads
      where
        own : (x : Rig) → x.running ≡ None → StandsOwn x → StandsIn None x
        own x q s = subst (λ (r : Option Running). StandsIn (turn_of r) x) q s

        by_late : (b : Bool) → (evented setup e c).rig ≡ (ended_if b d).rig → StandsIn None d
        by_late true l =
            let x : StandsIn None (ended_if true d).rig = own (ended_if true d).rig r (subst StandsOwn l (evented_stands setup e c runs h)) in
            record { placed_are = x.placed_are; live = x.live }
        by_late false l = own d r (subst StandsOwn l (evented_stands setup e c runs h))
