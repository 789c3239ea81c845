-- A step writes its lines in order of time, and leaves nothing to come before it.
use Rattle.std.proofs.Common.{◌≡◌, ℕ, ◌≤◌, Bool, true, false, List, [], ◌∷◌, ◌++◌, Option, None, Some, refl, ap, sym, subst, ◌∙◌, arith, inl, inr}
use Rattle.std.specs.Prelude.{IfSome}
use Rattle.gpi.specs.Events.{Event}
use Rattle.gpi.specs.State.{State, delayed_times}
use Rattle.gpi.specs.declared.types.Key.{Key}
use Rattle.gpi.specs.Keys.{among}
use Rattle.gpi.specs.declared.types.Key.TheVariants.{At, ReadWrite}
use Rattle.rig_model.specs.Task.Frame.{Task}
use Rattle.rig_model.specs.Task.Step.{next}
use Rattle.await_tree.specs.declared.wait_list.ready.Entry.{Entry}
use Rattle.await_tree.specs.WaitList.Waiting.{awaited_keys, keys_of, time_key, phase_key, named}
use Rattle.rig_model.specs.Run.Rig.{After, Rig, Setup, Running, is_any, held, awaited, procs, event_of, told_lines, view_of}
use Rattle.rig_model.specs.Run.Serve.{serve}
use Rattle.rig_model.specs.Run.Effect.{effect_of}
use Rattle.rig_model.specs.Run.Step.{Stepped, task_at, taken, stepped, kept, evented, after_event, resumed, chosen, rig_step}
use Rattle.run_laws.specs.Waves.Times.{RiseTo}
use Rattle.run_laws.proofs.PlacesLemmas.Needed.{all_kept}
use Rattle.run_laws.proofs.WavesLemmas.Times.{AllFrom, AreSince, none, both, front, back, one_more, times_since}
use Rattle.run_laws.proofs.WavesLemmas.Events.{Comes, event_comes}
use Rattle.run_laws.proofs.WavesLemmas.Effects.{AreAt, Goes, IsTimed, serve_goes, told_at, wish_goes}

-- ---- lines in order

pub rise_sooner : (first sooner : ℕ) (lines : List (List ℕ)) (last : ℕ) → sooner ≤ first → RiseTo first lines last → RiseTo sooner lines last
rise_sooner first sooner [] last l h = omega (arith, l, h)
rise_sooner first sooner (text ∷ texts) last l (inl (time, is, from, rest)) = inl (time, is, omega (arith, l, from), rest)
rise_sooner first sooner (text ∷ texts) last l (inr (none, rest)) = inr (none, rise_sooner first sooner texts last l rest)

pub rise_then : (first mid last : ℕ) (xs ys : List (List ℕ)) → RiseTo first xs mid → RiseTo mid ys last → RiseTo first (xs ++ ys) last
rise_then first mid last [] ys h k = rise_sooner mid first ys last h k
rise_then first mid last (x ∷ xs) ys (inl (time, is, from, rest)) k = inl (time, is, from, rise_then time mid last xs ys rest k)
rise_then first mid last (x ∷ xs) ys (inr (none, rest)) k = inr (none, rise_then first mid last xs ys rest k)

pub all_rise : (now : ℕ) (lines : List (List ℕ)) → AreAt now lines → RiseTo now lines now
all_rise now [] h = omega arith
all_rise now (text ∷ texts) (is, more) = inl (now, is, omega arith, all_rise now texts more)

-- ---- what a step leads to

-- it wrote its lines in order from this time on, and nothing is left to come before the time that it is then
pub record Moves (now : ℕ) (s : Stepped) : Type 0 where
  pub times : IsTimed s.rig.sim.time s.rig
  pub lines : RiseTo now s.lines s.rig.sim.time

-- a configuration is timed by its own time
pub own_time : (now : ℕ) (c : Rig) → IsTimed now c → IsTimed c.sim.time c
own_time now c h = subst (λ (n : ℕ). IsTimed n c) (sym h.time) h

-- ---- awaited keys

module _ (now : ℕ) where
  phase_since : (b : Bool) → AreSince now (phase_key b)
  phase_since true = λ (due : ℕ) (e : among (At due) (ReadWrite ∷ []) ≡ true). absurd (cc)
  phase_since false = none now

  time_key_since : (o : Option ℕ) → IfSome o (λ (due : ℕ). now ≤ due) → AreSince now (time_key o)
  time_key_since None h = none now
  time_key_since (Some t) h = one_more now t [] h (none now)

  since_time_key : (o : Option ℕ) → AreSince now (time_key o) → IfSome o (λ (due : ℕ). now ≤ due)
  since_time_key None h = tt
  since_time_key (Some t) h = (times_since now (At t ∷ []) h).0

  module _ (c : Rig) where
    abbrev own : List Key
    own = phase_key (is_any c.staged) ++ time_key c.deadline

    awaited_is : c.fired ≡ [] → awaited c ≡ named c.waiting (held c)
    awaited_is e = ap (λ (fired : List Key). awaited_keys fired c.waiting (held c)) e ∙ all_kept (named c.waiting (held c))

    awaited_since : c.fired ≡ [] → IsTimed now c → AreSince now (awaited c)
    awaited_since e h =
        subst (AreSince now) (sym (awaited_is e))
        (both now (keys_of c.waiting) (held c) h.leaves
        (both now own (time_key c.planned) (both now (phase_key (is_any c.staged)) (time_key c.deadline) (phase_since (is_any c.staged)) (time_key_since c.deadline h.deadline))
        (time_key_since c.planned h.planned)))

    -- at another state of the simulator, where no awaited key comes before its time
    moved : (s : State) → s.time ≡ now → AllFrom now (delayed_times s.delayed) → c.fired ≡ [] → AreSince now (awaited c) → IsTimed now (record c { sim = s })
    moved s time updates e k =
        let all : AreSince now (named c.waiting (held c)) = subst (AreSince now) (awaited_is e) k in
        let keys : AreSince now (held c) = back now (keys_of c.waiting) (held c) all in
        let own_keys : AreSince now own = front now own (time_key c.planned) keys in
        record {
          time = time;
          updates = updates;
          leaves = front now (keys_of c.waiting) (held c) all;
          deadline = since_time_key c.deadline (back now (phase_key (is_any c.staged)) (time_key c.deadline) own_keys);
          planned = since_time_key c.planned (back now own (time_key c.planned) keys);
        }

-- ---- steps

module _ (setup : Setup) (now : ℕ) where
  stepped_moves : (r : Running) (o : Option Task) (c : Rig) → IsTimed now c → Moves now (stepped setup r o c)
  stepped_moves r None c h = record { times = own_time now c h; lines = subst (λ (n : ℕ). now ≤ n) (sym h.time) (omega arith) }
  stepped_moves r (Some task) c h =
      let n = next setup.functions task r.given (view_of setup c) in
      let a : After = effect_of setup r.task n.turned (kept r.task n.task c) in
      let g : Goes now a = wish_goes now setup r.task n.turned (kept r.task n.task c) h in
      record { times = own_time now a.rig g.times; lines = subst (λ (t : ℕ). RiseTo now a.lines t) (sym g.times.time) (all_rise now a.lines g.lines) }

  evented_moves : (e : Event) (c : Rig) → c.fired ≡ [] → Comes now (awaited c) e → IsTimed now c → Moves now (evented setup e c)
  evented_moves e c none k h =
      let then : ℕ = e.state.time in
      let d : Rig = record c { sim = e.state } in
      let a : After = serve setup e.fired d in
      let g : Goes then a = serve_goes then setup e.fired d (moved then c e.state refl k.updates none k.keys) in
      let told : AreAt now (told_lines setup c.sim.time e.told) = subst (λ (n : ℕ). AreAt now (told_lines setup n e.told)) (sym h.time) (told_at setup now e.told) in
      record {
        times = own_time then a.rig g.times;
        lines = rise_then now now a.rig.sim.time (told_lines setup c.sim.time e.told) a.lines (all_rise now (told_lines setup c.sim.time e.told) told)
            (rise_sooner then now a.lines a.rig.sim.time k.later (subst (λ (t : ℕ). RiseTo then a.lines t) (sym g.times.time) (all_rise then a.lines g.lines)));
      }

  after_moves : (o : Option Event) (c : Rig) → c.fired ≡ [] → IfSome o (Comes now (awaited c)) → IsTimed now c → Moves now (after_event setup o c)
  after_moves None c none k h = record { times = own_time now c h; lines = subst (λ (n : ℕ). now ≤ n) (sym h.time) (omega arith) }
  after_moves (Some e) c none k h = evented_moves e c none k h

  chosen_moves : (running : Option Running) (ready : List Entry) (c : Rig) → c.fired ≡ [] → IsTimed now c → Moves now (chosen setup running ready c)
  chosen_moves (Some r) ready c none h = stepped_moves r (task_at r.task c.tasks) c h
  chosen_moves None (e ∷ es) c none h = stepped_moves (taken c e) (task_at e.task c.tasks) (resumed e es c) h
  chosen_moves None [] c none h =
      after_moves (event_of setup c) c none
      (event_comes now (awaited c) (awaited_since now c none h) (procs setup) c.sim (record { time = h.time; updates = h.updates })) h

pub step_moves : (setup : Setup) (c : Rig) → c.fired ≡ [] → IsTimed c.sim.time c → Moves c.sim.time (rig_step setup c)
step_moves setup c none h = chosen_moves setup c.sim.time c.running c.ready c none h
