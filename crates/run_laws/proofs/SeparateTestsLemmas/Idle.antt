-- Between two tests nothing of a test is there.
use Rattle.std.proofs.Common.{◌≡◌, ℕ, zero, suc, ◌+◌, Bool, true, false, List, [], ◌∷◌, ◌++◌, Option, None, Some, refl, ap, sym, subst, ◌∙◌}
use Rattle.gpi.specs.State.{State}
use Rattle.gpi.specs.Keys.{among, set_of}
use Rattle.gpi.specs.Events.{Event}
use Rattle.gpi.specs.declared.types.Counts.{Counts}
use Rattle.gpi.specs.declared.types.Key.{Key}
use Rattle.gpi.specs.declared.types.Key.TheVariants.{ReadWrite}
use Rattle.run_view.specs.RandomStream.Generator.{Generator, seeded}
use Rattle.test_meaning.specs.Body.BodyTrees.{Case}
use Rattle.await_tree.specs.WaitList.Counts.{counts_after}
use Rattle.rig_model.specs.declared.run.outcome.Outcome.{Outcome}
use Rattle.rig_model.specs.Run.Rig.{Rig, Setup, event_of, procs, awaited}
use Rattle.rig_model.specs.Run.Counts.{counted}
use Rattle.rig_model.specs.Run.Serve.{serve, serve_keys, flushed_if, not_due}
use Rattle.rig_model.specs.Run.Step.{rig_step, after_event}
use Rattle.rig_model.specs.Run.Verdict.{reason_of}
use Rattle.rig_model.specs.Run.Case.{start_planned, ended}
use Rattle.rig_model.specs.Run.Run.{Place, Begins, Runs, Waits, Over, Run, unskipped, skipped, with_skips, judged, begun, planned, step, step_at, step_in, place_by, goes, steps, opening, opening_sim}
use Rattle.rig_model.proofs.RunLemmas.Comes.{is_event, event_is}
use Rattle.run_laws.specs.SeparateTests.Between.{idle, IsIdle, IsBetween, left_at}
use Rattle.run_laws.specs.SeparateTests.Separate.{NothingBetween}

-- ---- an event between two tests

-- where a start is planned there is an event
has_event : (setup : Setup) (sim : State) (time : ℕ) (random : Generator) (counts : Counts) → is_event (event_of setup (idle sim (Some time) random counts)) ≡ true
has_event setup sim time random counts = event_is (procs setup) sim (set_of (awaited (idle sim (Some time) random counts))) time refl

abbrev with_fired_keys : List Key → Rig → Rig
with_fired_keys fired c = record c { fired = fired }

-- keys are served where nothing waits
serve_keys_idle : (keys others fired : List Key) (sim : State) (planned : Option ℕ) (random : Generator) (counts : Counts)
    → serve_keys keys others (with_fired_keys fired (idle sim planned random counts)) ≡ with_fired_keys others (idle sim planned random counts)
serve_keys_idle [] others fired sim planned random counts = refl
serve_keys_idle (k ∷ ks) others fired sim planned random counts = serve_keys_idle ks others (others ++ ks) sim planned random counts

flush_idle : (setup : Setup) (b : Bool) (fired : List Key) (sim : State) (planned : Option ℕ) (random : Generator) (counts : Counts)
    → (flushed_if setup b (with_fired_keys fired (idle sim planned random counts))).rig ≡ with_fired_keys fired (idle sim planned random counts)
flush_idle setup true fired sim planned random counts = refl
flush_idle setup false fired sim planned random counts = refl

-- such a configuration, with this start
record IsWaiting (planned : Option ℕ) (c : Rig) : Type 0 where
  sim : State
  random : Generator
  counts : Counts
  is : c ≡ idle sim planned random counts

-- such a configuration, with a start or none
record IsLeft (c : Rig) : Type 0 where
  start : Option ℕ
  waiting : IsWaiting start c

serve_idle : (setup : Setup) (keys : List Key) (sim : State) (time : ℕ) (random : Generator) (counts : Counts)
    → IsLeft (serve setup keys (idle sim (Some time) random counts)).rig
serve_idle setup keys sim time random counts =
    let start : Option ℕ = not_due keys (Some time) in
    let c : Rig = with_fired_keys keys (idle sim start random counts) in
    let d : Rig = idle sim start random counts in
    record {
      start = start;
      waiting = record {
        sim = sim;
        random = random;
        counts = counts_after keys (awaited c) (awaited d) counts;
        is = ap (λ (x : Rig). counted keys x (serve_keys keys [] x)) (flush_idle setup (among ReadWrite keys) keys sim start random counts)
            ∙ ap (λ (x : Rig). counted keys c x) (serve_keys_idle keys [] keys sim start random counts);
      };
    }

event_idle : (setup : Setup) (o : Option Event) (sim : State) (time : ℕ) (random : Generator) (counts : Counts) → is_event o ≡ true
    → IsLeft (after_event setup o (idle sim (Some time) random counts)).rig
event_idle setup None sim time random counts h = cc
event_idle setup (Some e) sim time random counts h = serve_idle setup e.fired e.state time random counts

step_idle : (setup : Setup) (time : ℕ) (c : Rig) → IsWaiting (Some time) c → IsLeft (rig_step setup c).rig
step_idle setup time c w =
    subst (λ (x : Rig). IsLeft (rig_step setup x).rig) (sym w.is)
    (event_idle setup (event_of setup (idle w.sim (Some time) w.random w.counts)) w.sim time w.random w.counts (has_event setup w.sim time w.random w.counts))

-- ---- runs

abbrev IsLeftAt : Place → Rig → Type 0
IsLeftAt (Begins left) c = IsWaiting None c
IsLeftAt (Runs case left) c = Unit {0}
IsLeftAt (Waits left) c = (time : ℕ) × IsWaiting (Some time) c
IsLeftAt Over c = Unit {0}

begun_left : (setup : Setup) (cases : List Case) (c : Run) → IsLeftAt (begun setup cases c).place (begun setup cases c).rig
begun_left setup [] c = tt
begun_left setup (case ∷ cases) c = tt

planned_left : (cases : List Case) (c : Run) (before : Rig) → c.rig ≡ ended before → IsLeftAt (planned cases c).place (planned cases c).rig
planned_left [] c before e = tt
planned_left (case ∷ cases) c before e =
    (before.sim.time + 1, record { sim = before.sim; random = before.random; counts = (start_planned (ended before)).counts; is = ap start_planned e })

placed_left : (left : List Case) (c : Rig) → IsLeft c → IsLeftAt (place_by c.planned left) c
placed_left left c l = subst (λ (o : Option ℕ). IsLeftAt (place_by o left) c) (sym (ap (λ (x : Rig). x.planned) l.waiting.is)) (by_start l.start l.waiting)
  where
    by_start : (o : Option ℕ) → IsWaiting o c → IsLeftAt (place_by o left) c
    by_start None w = w
    by_start (Some time) w = (time, w)

in_left : (setup : Setup) (case : Case) (cases : List Case) (o : Option Outcome) (c : Run) → c.place ≡ Runs case cases
    → IsLeftAt (step_in setup case cases o c).place (step_in setup case cases o c).rig
in_left setup case cases (Some o) c q = planned_left (unskipped cases) (with_skips (skipped cases) (judged (reason_of setup.flat case o) case c)) c.rig refl
in_left setup case cases None c q = subst (λ (p : Place). IsLeftAt p (rig_step setup c.rig).rig) (sym q) tt

at_left : (setup : Setup) (p : Place) (c : Run) → c.place ≡ p → IsLeftAt p c.rig → IsLeftAt (step_at setup p c).place (step_at setup p c).rig
at_left setup (Begins cases) c q h = begun_left setup (unskipped cases) (with_skips (skipped cases) c)
at_left setup (Runs case cases) c q h = in_left setup case cases c.rig.outcome c q
at_left setup (Waits cases) c q h = placed_left cases (rig_step setup c.rig).rig (step_idle setup h.0 c.rig h.1)
at_left setup Over c q h = subst (λ (p : Place). IsLeftAt p c.rig) (sym q) tt

module _ (setup : Setup) (budget : ℕ) where
  steps_left : (n : ℕ) (c : Run) → IsLeftAt c.place c.rig → IsLeftAt (steps setup budget n c).place (steps setup budget n c).rig
  unfolding steps
  steps_left zero c h = h
  steps_left (suc n) c h = decided (goes setup budget c) refl (steps_left n (step setup c) (at_left setup c.place c refl h))
    where
      decided : (b : Bool) → goes setup budget c ≡ b → IsLeftAt (steps setup budget n (step setup c)).place (steps setup budget n (step setup c)).rig
          → IsLeftAt (steps setup budget (suc n) c).place (steps setup budget (suc n) c).rig
      decided true g more = rw g more
      decided false g more = rw g h

-- ---- the law

waiting_idle : (o : Option ℕ) (c : Rig) → IsWaiting o c → IsIdle c
waiting_idle o c w = subst IsIdle (sym w.is) refl

between_by : (p : Place) (left : List Case) (c : Run) → c.place ≡ p → IsLeftAt p c.rig → left_at p ≡ Some left → IsBetween left c
between_by (Begins cases) left c q h e =
    let start : c.rig.planned ≡ None = ap (λ (x : Rig). x.planned) h.is in
    let same : cases ≡ left = cc e in
    record { place = q ∙ ap Begins same ∙ ap (λ (o : Option ℕ). place_by o left) (sym start); idle = waiting_idle None c.rig h }
between_by (Runs case cases) left c q h e = cc
between_by (Waits cases) left c q h e =
    let start : c.rig.planned ≡ Some h.0 = ap (λ (x : Rig). x.planned) h.1.is in
    let same : cases ≡ left = cc e in
    record { place = q ∙ ap Waits same ∙ ap (λ (o : Option ℕ). place_by o left) (sym start); idle = waiting_idle (Some h.0) c.rig h.1 }
between_by Over left c q h e = cc

pub nothing_between : NothingBetween
nothing_between setup seed cases budget count left e =
    let c : Run = steps setup budget count (opening setup seed cases) in
    let start : IsLeftAt (opening setup seed cases).place (opening setup seed cases).rig =
    record { sim = opening_sim setup; random = seeded seed; counts = (opening setup seed cases).rig.counts; is = refl } in
    between_by c.place left c refl (steps_left setup budget count (opening setup seed cases) start) e
