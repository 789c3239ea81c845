-- A run of every budget stops.
use Rattle.std.proofs.Common.{◌≡◌, ℕ, zero, suc, ◌+◌, ◌-◌, ◌≤◌, ◌<◌, ◌⊎◌, Bool, true, false, List, [], ◌∷◌, ◌++◌, length, Option, None, Some, refl, ap, sym, subst, ◌∙◌, arith, rules, inl, inr}
use Rattle.std.specs.Prelude.{nat_le, not, ◌&&◌}
use Rattle.gpi.specs.State.{State}
use Rattle.gpi.specs.Keys.{among, set_of}
use Rattle.gpi.specs.Events.{Event}
use Rattle.gpi.specs.declared.types.Counts.{Counts}
use Rattle.gpi.specs.declared.types.Key.{Key}
use Rattle.gpi.specs.declared.types.Key.TheVariants.{ReadWrite}
use Rattle.run_view.specs.RandomStream.Generator.{Generator}
use Rattle.test_meaning.specs.Body.BodyTrees.{Case}
use Rattle.await_tree.specs.WaitList.Counts.{counts_after}
use Rattle.rig_model.specs.declared.run.outcome.Outcome.{Outcome}
use Rattle.rig_model.specs.Run.Rig.{Rig, Setup, event_of, procs, awaited}
use Rattle.rig_model.specs.Run.Counts.{counted}
use Rattle.rig_model.specs.Run.Serve.{serve, serve_keys, flushed_if, not_due}
use Rattle.rig_model.specs.Run.Step.{Stepped, rig_step, after_event}
use Rattle.rig_model.specs.Run.Verdict.{reason_of}
use Rattle.rig_model.specs.Run.Case.{emptied, start_planned, ended}
use Rattle.rig_model.specs.Run.Run.{Place, Begins, Runs, Waits, Over, is_over, Run, unskipped, skipped, with_skips, judged, begun, planned as next_planned, within, step, step_at, step_in, place_by, cost_at, cost_in, goes, steps, opening, IsRun}
use Rattle.rig_model.proofs.RunLemmas.Whole.{steps_one, steps_none}
use Rattle.rig_model.proofs.RunLemmas.Comes.{is_event, event_is}
use Rattle.rig_model.proofs.RunLemmas.Falls.{mass, rig_falls}

-- ---- between two tests

-- nothing but the planned start is left
abbrev between : State → Generator → Counts → Option ℕ → List Key → Rig
between sim random counts planned fired = record (emptied sim random counts) { planned = planned; fired = fired }

-- the configuration is such a one, with a start that is planned
record IsBetween (c : Rig) : Type 0 where
  sim : State
  random : Generator
  counts : Counts
  time : ℕ
  is : c ≡ between sim random counts (Some time) []

-- the configuration is such a one, with or without a start that is planned
record IsAfter (c : Rig) : Type 0 where
  sim : State
  random : Generator
  counts : Counts
  planned : Option ℕ
  is : c ≡ between sim random counts planned []

-- where a start is planned there is an event
has_event : (setup : Setup) (sim : State) (random : Generator) (counts : Counts) (time : ℕ) → is_event (event_of setup (between sim random counts (Some time) [])) ≡ true
has_event setup sim random counts time = event_is (procs setup) sim (set_of (awaited (between sim random counts (Some time) []))) time refl

-- keys are served where nothing waits
serve_keys_between : (keys others : List Key) (sim : State) (random : Generator) (counts : Counts) (planned : Option ℕ) (fired : List Key)
    → serve_keys keys others (between sim random counts planned fired) ≡ between sim random counts planned others
serve_keys_between [] others sim random counts planned fired = refl
serve_keys_between (k ∷ ks) others sim random counts planned fired = serve_keys_between ks others sim random counts planned (others ++ ks)

flush_is : (b : Bool) (setup : Setup) (sim : State) (random : Generator) (counts : Counts) (planned : Option ℕ) (fired : List Key)
    → (flushed_if setup b (between sim random counts planned fired)).rig ≡ between sim random counts planned fired
flush_is true setup sim random counts planned fired = refl
flush_is false setup sim random counts planned fired = refl

serve_between : (setup : Setup) (keys : List Key) (sim : State) (random : Generator) (counts : Counts) (time : ℕ)
    → IsAfter (serve setup keys (between sim random counts (Some time) [])).rig
serve_between setup keys sim random counts time =
    let planned : Option ℕ = not_due keys (Some time) in
    let c : Rig = between sim random counts planned keys in
    let d : Rig = between sim random counts planned [] in
    record {
      sim = sim;
      random = random;
      planned = planned;
      counts = counts_after keys (awaited c) (awaited d) counts;
      is = ap (λ (x : Rig). counted keys x (serve_keys keys [] x)) (flush_is (among ReadWrite keys) setup sim random counts planned keys)
          ∙ ap (λ (x : Rig). counted keys c x) (serve_keys_between keys [] sim random counts planned keys);
    }

-- an event between two tests costs 1, and leaves such a configuration
record Between (s : Stepped) : Type 0 where
  costs : s.cost ≡ 1
  after : IsAfter s.rig

event_between : (setup : Setup) (o : Option Event) (sim : State) (random : Generator) (counts : Counts) (time : ℕ) → is_event o ≡ true
    → Between (after_event setup o (between sim random counts (Some time) []))
event_between setup None sim random counts time h = cc
event_between setup (Some e) sim random counts time h = record { costs = refl; after = serve_between setup e.fired e.state random counts time }

step_waits : (setup : Setup) (c : Rig) → IsBetween c → Between (rig_step setup c)
step_waits setup c b =
    subst (λ (x : Rig). Between (rig_step setup x)) (sym b.is)
    (event_between setup (event_of setup (between b.sim b.random b.counts (Some b.time) [])) b.sim b.random b.counts b.time (has_event setup b.sim b.random b.counts b.time))

-- ---- runs

abbrev GoodPlace : Place → Rig → Type 0
GoodPlace (Waits cases) c = IsBetween c
GoodPlace (Begins cases) c = Unit {0}
GoodPlace (Runs case rest) c = Unit {0}
GoodPlace Over c = Unit {0}

-- how many tests may still begin and end at no cost
abbrev place_weight : Place → ℕ
place_weight Over = 0
place_weight (Begins cases) = length cases + length cases + 1
place_weight (Runs case rest) = length rest + length rest + 2
place_weight (Waits cases) = length cases + length cases

unskipped_length : (cases : List Case) → length (unskipped cases) ≤ length cases
unskipped_length [] = omega arith
unskipped_length (case ∷ cases) = decided case.skip refl (unskipped_length cases)
  where
    decided : (b : Bool) → case.skip ≡ b → length (unskipped cases) ≤ length cases → length (unskipped (case ∷ cases)) ≤ suc (length cases)
    decided true e k = rw e (omega arith)
    decided false e k = rw e (omega arith)

-- a run at such a place, with fewer tests
record Fewer (k : ℕ) (c : Run) : Type 0 where
  good : GoodPlace c.place c.rig
  few : place_weight c.place < k

begins_fewer : (setup : Setup) (cases : List Case) (c : Run) → Fewer (length cases + length cases + 1) (begun setup cases c)
begins_fewer setup [] c = record { good = tt; few = omega arith }
begins_fewer setup (case ∷ rest) c = record { good = tt; few = omega arith }

waits_fewer : (cases : List Case) (c : Run) (before : Rig) → c.rig ≡ ended before → Fewer (length cases + length cases + 2) (next_planned cases c)
waits_fewer [] c before e = record { good = tt; few = omega arith }
waits_fewer (case ∷ rest) c before e = record {
  good = record {
    sim = before.sim;
    random = before.random;
    time = before.sim.time + 1;
    counts = (start_planned (ended before)).counts;
    is = ap start_planned e;
  };
  few = omega arith;
}

Stops : Setup → ℕ → Run → Type 0
Stops setup budget c = (n : ℕ) × (goes setup budget (steps setup budget n c) ≡ false)

-- if it stops after a step, it stops
stops_after : (setup : Setup) (budget : ℕ) (c : Run) → Stops setup budget (step setup c) → Stops setup budget c
unfolding Stops
stops_after setup budget c r = decided (goes setup budget c) refl
  where
    decided : (b : Bool) → goes setup budget c ≡ b → (n : ℕ) × (goes setup budget (steps setup budget n c) ≡ false)
    decided true h = (suc r.0, ap (goes setup budget) (steps_one setup budget r.0 c h) ∙ r.1)
    decided false h = (0, ap (goes setup budget) (steps_none setup budget 0 c h) ∙ h)

fits : (a b : ℕ) → nat_le a b ≡ true → a ≤ b
fits a b h = search rules

and_second : (a b : Bool) → (a && b) ≡ true → b ≡ true
and_second true b h = h
and_second false b h = cc

-- by what is left of the budget, then by the tests that are left, then by the weight
module _ (setup : Setup) (budget : ℕ) where
  abbrev Bounded : ℕ → ℕ → ℕ → Type 0
  Bounded f k w = (c : Run) → GoodPlace c.place c.rig → budget ≤ c.cost + f → place_weight c.place ≤ k → mass c.rig ≤ w → Stops setup budget c

  -- what a step leads to: it costs and fits the budget, or fewer tests are left, or less weight is
  data Lessens (k w : ℕ) (c d : Run) : Type 0 where
    costs : c.cost < d.cost → d.cost ≤ budget → Lessens k w c d
    fewer : place_weight d.place < k → d.cost ≡ c.cost → Lessens k w c d
    lighter : place_weight d.place ≤ k → d.cost ≡ c.cost → mass d.rig < w → Lessens k w c d

  record Leads (k w : ℕ) (c d : Run) : Type 0 where
    good : GoodPlace d.place d.rig
    lessens : Lessens k w c d

  begins_cost : (cases : List Case) (c : Run) → (begun setup cases c).cost ≡ c.cost
  begins_cost [] c = refl
  begins_cost (case ∷ rest) c = refl

  waits_cost : (cases : List Case) (c : Run) → (next_planned cases c).cost ≡ c.cost
  waits_cost [] c = refl
  waits_cost (case ∷ rest) c = refl

  good_after : (cases : List Case) (r : Rig) → IsAfter r → GoodPlace (place_by r.planned cases) r
  good_after cases r a = subst (λ (x : Rig). GoodPlace (place_by x.planned cases) x) (sym a.is) (by_planned a.planned)
    where
      by_planned : (planned : Option ℕ) → GoodPlace (place_by planned cases) (between a.sim a.random a.counts planned [])
      by_planned None = tt
      by_planned (Some time) = record { sim = a.sim; random = a.random; counts = a.counts; time = time; is = refl }

  from_fewer : (j k w : ℕ) (c d : Run) → j ≤ k → Fewer j d → d.cost ≡ c.cost → Leads k w c d
  from_fewer j k w c d h f e = record { good = f.good; lessens = fewer (let l : place_weight d.place < j = f.few in omega arith) e }

  is_zero_or : (n : ℕ) → (0 < n) ⊎ (n ≡ 0)
  is_zero_or zero = inr refl
  is_zero_or (suc n) = inl (omega arith)

  runs_leads : (case : Case) (rest : List Case) (o : Option Outcome) (k w : ℕ) (c : Run) → c.rig.outcome ≡ o → c.place ≡ Runs case rest → place_weight c.place ≤ k → mass c.rig ≤ w
      → c.cost + cost_in setup o c ≤ budget → Leads k w c (step_in setup case rest o c)
  runs_leads case rest (Some o) k w c e q p m fit =
      let j : Run = with_skips (skipped rest) (judged (reason_of setup.flat case o) case c) in
      let a : length (unskipped rest) ≤ length rest = unskipped_length rest in
      let b : place_weight c.place ≡ length rest + length rest + 2 = ap place_weight q in
      from_fewer (length (unskipped rest) + length (unskipped rest) + 2) k w c (next_planned (unskipped rest) j) (omega arith) (waits_fewer (unskipped rest) j c.rig refl) (waits_cost (unskipped rest) j)
  runs_leads case rest None k w c e q p m fit = record { good = subst (λ (x : Place). GoodPlace x (rig_step setup c.rig).rig) (sym q) tt; lessens = by_cost (is_zero_or (rig_step setup c.rig).cost) (rig_falls setup c.rig e) }
    where
      by_cost : (0 < (rig_step setup c.rig).cost) ⊎ ((rig_step setup c.rig).cost ≡ 0) → (0 < (rig_step setup c.rig).cost) ⊎ (mass (rig_step setup c.rig).rig < mass c.rig)
          → Lessens k w c (within (rig_step setup c.rig) c)
      by_cost (inl n) h = costs (omega arith) fit
      by_cost (inr z) (inl n) = absurd (omega arith)
      by_cost (inr z) (inr h) = lighter p (omega arith) (omega arith)

  leads : (p : Place) (k w : ℕ) (c : Run) → c.place ≡ p → GoodPlace p c.rig → place_weight c.place ≤ k → mass c.rig ≤ w
      → (not (is_over p) && nat_le (c.cost + cost_at setup p c) budget) ≡ true → Leads k w c (step_at setup p c)
  leads Over k w c q g p m h = cc
  leads (Begins cases) k w c q g p m h =
      let d : Run = with_skips (skipped cases) c in
      let a : length (unskipped cases) ≤ length cases = unskipped_length cases in
      let b : place_weight c.place ≡ length cases + length cases + 1 = ap place_weight q in
      from_fewer (length (unskipped cases) + length (unskipped cases) + 1) k w c (begun setup (unskipped cases) d) (omega arith) (begins_fewer setup (unskipped cases) d) (begins_cost (unskipped cases) d)
  leads (Runs case rest) k w c q g p m h = runs_leads case rest c.rig.outcome k w c refl q p m (fits (c.cost + cost_in setup c.rig.outcome c) budget h)
  leads (Waits cases) k w c q g p m h =
      let b : Between (rig_step setup c.rig) = step_waits setup c.rig g in
      let e : (rig_step setup c.rig).cost ≡ 1 = b.costs in
      record {
        good = good_after cases (rig_step setup c.rig).rig b.after;
        lessens = costs (omega arith) (fits (c.cost + (rig_step setup c.rig).cost) budget h);
      }

  one_step : (f k w : ℕ) → ((k' w' f' : ℕ) → f ≡ suc f' → Bounded f' k' w') → ((k' w' : ℕ) → k ≡ suc k' → Bounded f k' w') → ((w' : ℕ) → w ≡ suc w' → Bounded f k w') → Bounded f k w
  unfolding Stops
  one_step f k w less few same c g b p m = decided (goes setup budget c) refl
    where
      stops_by : (d : Run) → GoodPlace d.place d.rig → Lessens k w c d → (n : ℕ) × (goes setup budget (steps setup budget n d) ≡ false)
      stops_by d gd (costs l fit) = less (place_weight d.place) (mass d.rig) (f - 1) (omega arith) d gd (omega arith) (omega arith) (omega arith)
      stops_by d gd (fewer l e) = few (k - 1) (mass d.rig) (omega arith) d gd (omega arith) (omega arith) (omega arith)
      stops_by d gd (lighter l e n) = same (w - 1) (omega arith) d gd (omega arith) l (omega arith)

      decided : (x : Bool) → goes setup budget c ≡ x → (n : ℕ) × (goes setup budget (steps setup budget n c) ≡ false)
      decided false h = (0, ap (goes setup budget) (steps_none setup budget 0 c h) ∙ h)
      decided true h = let l : Leads k w c (step setup c) = leads c.place k w c refl g p m h in stops_after setup budget c (stops_by (step setup c) l.good l.lessens)

  by_weight : (f k : ℕ) → ((k' w' f' : ℕ) → f ≡ suc f' → Bounded f' k' w') → ((k' w' : ℕ) → k ≡ suc k' → Bounded f k' w') → (w : ℕ) → Bounded f k w
  by_weight f k less few zero = one_step f k zero less few (λ w' e. absurd (omega arith))
  by_weight f k less few (suc w) = one_step f k (suc w) less few (λ w' e. let q : w ≡ w' = omega arith in subst (λ (x : ℕ). Bounded f k x) q (by_weight f k less few w))

  by_place : (f : ℕ) → ((k' w' f' : ℕ) → f ≡ suc f' → Bounded f' k' w') → (k w : ℕ) → Bounded f k w
  by_place f less zero w = by_weight f zero less (λ k' w' e. absurd (omega arith)) w
  by_place f less (suc k) w = by_weight f (suc k) less (λ k' w' e. let q : k ≡ k' = omega arith in subst (λ (x : ℕ). Bounded f x w') q (by_place f less k w')) w

  bounded : (f k w : ℕ) → Bounded f k w
  bounded zero k w = by_place zero (λ k' w' f' e. absurd (omega arith)) k w
  bounded (suc f) k w = by_place (suc f) (λ k' w' f' e. let q : f ≡ f' = omega arith in subst (λ (x : ℕ). Bounded x k' w') q (bounded f k' w')) k w

-- a run of every budget stops somewhere
pub run_stops : (setup : Setup) (seed : ℕ) (cases : List Case) (budget : ℕ) → (c : Run) × IsRun setup seed cases budget c
unfolding Stops
run_stops setup seed cases budget =
    let first : Run = opening setup seed cases in
    let s : Stops setup budget first = bounded setup budget budget (place_weight first.place) (mass first.rig) first tt (omega arith) (omega arith) (omega arith) in
    (steps setup budget s.0 first, record { count = s.0; reached = refl; stopped = s.1 })
