-- Runs that agree between tests add the same.
use Rattle.std.proofs.Common.{◌≡◌, ℕ, zero, suc, ◌+◌, ◌-◌, ◌≤◌, Bool, true, false, List, [], ◌∷◌, ◌++◌, Option, None, Some, refl, ap, sym, subst, ◌∙◌, append_assoc, append-nil, arith}
use Rattle.std.specs.Prelude.{nat_le, not, ◌&&◌, map}
use Rattle.gpi.specs.declared.types.Counts.{Counts}
use Rattle.test_meaning.specs.Body.BodyTrees.{Case}
use Rattle.rig_model.specs.declared.run.outcome.Outcome.{Outcome}
use Rattle.rig_model.specs.declared.run.outcome.Verdict.{Verdict}
use Rattle.rig_model.specs.declared.run.outcome.Verdict.TheVariants.{Skip}
use Rattle.rig_model.specs.Run.Line.{test_line, skip_line, verdict_line}
use Rattle.rig_model.specs.Run.Rig.{Rig, Setup}
use Rattle.rig_model.specs.Run.Step.{Stepped, rig_step}
use Rattle.rig_model.specs.Run.Verdict.{reason_of, verdict_of}
use Rattle.rig_model.specs.Run.Run.{Place, Begins, Runs, Waits, Over, is_over, Run, skipped, unskipped, with_skips, begun, planned, judged, within, place_by, placed, step, step_at, step_in, step_cost, goes, steps, opening}
use Rattle.rig_model.proofs.RunLemmas.Whole.{steps_one, steps_none}
use Rattle.run_laws.specs.SeparateTests.Between.{idle, IsBetween, AgreeBetween}
use Rattle.run_laws.specs.SeparateTests.Later.{with_counts, closing_at, closing, Adds, AddTheSame, meets_budget}
use Rattle.run_laws.specs.SeparateTests.Separate.{SeparateTests, SeparateRuns}
use Rattle.run_laws.proofs.SeparateTestsLemmas.Blind.{SameStepped, step_blind, begin_blind}

-- ---- what is added one after the other

-- the same run, with other counts, lines, verdicts and costs so far
abbrev other : Counts → List (List ℕ) → List Verdict → ℕ → Run → Run
other counts lines verdicts cost c = record { rig = with_counts counts c.rig; place = c.place; lines = lines; verdicts = verdicts; cost = cost }

-- these are added, with no closing line behind
record Extends (lines : List (List ℕ)) (verdicts : List Verdict) (cost : ℕ) (c c' : Run) : Type 0 where
  lines_are : c'.lines ≡ c.lines ++ lines
  verdicts_are : c'.verdicts ≡ c.verdicts ++ verdicts
  cost_is : c'.cost ≡ c.cost + cost

adds_behind : (ls ms : List (List ℕ)) (vs ws : List Verdict) (k l : ℕ) (c d e : Run) → Extends ls vs k c d → Adds ms ws l d e → Adds (ls ++ ms) (vs ++ ws) (k + l) c e
adds_behind ls ms vs ws k l c d e x a = record {
  lines_are = a.lines_are ∙ ap (λ (t : List (List ℕ)). t ++ (ms ++ closing e)) x.lines_are ∙ append_assoc c.lines ls (ms ++ closing e)
      ∙ ap (λ (t : List (List ℕ)). c.lines ++ t) (sym (append_assoc ls ms (closing e)));
  verdicts_are = a.verdicts_are ∙ ap (λ (t : List Verdict). t ++ ws) x.verdicts_are ∙ append_assoc c.verdicts vs ws;
  cost_is = omega (arith, a.cost_is, x.cost_is);
}

-- what two runs add behind what both have added
same_behind : (ls : List (List ℕ)) (vs : List Verdict) (k : ℕ) (c d c' d' c'' d'' : Run) → Extends ls vs k c c' → Extends ls vs k d d' → AddTheSame c' d' c'' d''
    → AddTheSame c d c'' d''
same_behind ls vs k c d c' d' c'' d'' x y h = record {
  lines = ls ++ h.lines;
  verdicts = vs ++ h.verdicts;
  cost = k + h.cost;
  one = adds_behind ls h.lines vs h.verdicts k h.cost c c' c'' x h.one;
  other = adds_behind ls h.lines vs h.verdicts k h.cost d d' d'' y h.other;
  place = h.place;
  rigs = h.rigs;
}

-- a run that isn't over has no closing line
adds_open : (ls : List (List ℕ)) (vs : List Verdict) (k : ℕ) (c d : Run) → closing d ≡ [] → Adds ls vs k c d → Extends ls vs k c d
adds_open ls vs k c d e a = record {
  lines_are = a.lines_are ∙ ap (λ (t : List (List ℕ)). c.lines ++ (ls ++ t)) e ∙ ap (λ (t : List (List ℕ)). c.lines ++ t) (append-nil ls);
  verdicts_are = a.verdicts_are;
  cost_is = a.cost_is;
}

open_adds : (ls : List (List ℕ)) (vs : List Verdict) (k : ℕ) (c d : Run) → closing d ≡ [] → Extends ls vs k c d → Adds ls vs k c d
open_adds ls vs k c d e x = record {
  lines_are = x.lines_are ∙ ap (λ (t : List (List ℕ)). c.lines ++ t) (sym (append-nil ls)) ∙ ap (λ (t : List (List ℕ)). c.lines ++ (ls ++ t)) (sym e);
  verdicts_are = x.verdicts_are;
  cost_is = x.cost_is;
}

-- the closing line alone
adds_closing : (c d : Run) → d.lines ≡ c.lines ++ closing d → d.verdicts ≡ c.verdicts → d.cost ≡ c.cost → Adds [] [] 0 c d
adds_closing c d e f g = record { lines_are = e; verdicts_are = f ∙ sym (append-nil c.verdicts); cost_is = omega (arith, g) }

-- ---- begins and ends of tests

module _ (n : Counts) (ls : List (List ℕ)) (vs : List Verdict) (k : ℕ) where
  abbrev its : Run → Run
  its c = other n ls vs k c

  begun_same : (setup : Setup) (cases : List Case) (c : Run) → AddTheSame c (its c) (begun setup cases c) (begun setup cases (its c))
  begun_same setup [] c = record {
    lines = [];
    verdicts = [];
    cost = 0;
    one = adds_closing c (begun setup [] c) refl refl refl;
    other = adds_closing (its c) (begun setup [] (its c)) refl refl refl;
    place = refl;
    rigs = refl;
  }
  begun_same setup (case ∷ cases) c =
      let line : List (List ℕ) = test_line c.rig.sim.time case.name ∷ [] in
      record {
        lines = line;
        verdicts = [];
        cost = 0;
        one = record { lines_are = refl; verdicts_are = sym (append-nil c.verdicts); cost_is = omega arith };
        other = record { lines_are = refl; verdicts_are = sym (append-nil vs); cost_is = omega arith };
        place = refl;
        rigs = begin_blind setup case n c.rig;
      }

  planned_same : (cases : List Case) (c : Run) → AddTheSame c (its c) (planned cases c) (planned cases (its c))
  planned_same [] c = record {
    lines = [];
    verdicts = [];
    cost = 0;
    one = adds_closing c (planned [] c) refl refl refl;
    other = adds_closing (its c) (planned [] (its c)) refl refl refl;
    place = refl;
    rigs = refl;
  }
  planned_same (case ∷ cases) c = record {
    lines = [];
    verdicts = [];
    cost = 0;
    one = record { lines_are = sym (append-nil c.lines); verdicts_are = sym (append-nil c.verdicts); cost_is = omega arith };
    other = record { lines_are = sym (append-nil ls); verdicts_are = sym (append-nil vs); cost_is = omega arith };
    place = refl;
    rigs = refl;
  }

-- ---- steps

-- a test that is skipped has its line
abbrev skip_lines : ℕ → List Case → List (List ℕ)
skip_lines time cases = map (λ (case : Case). skip_line time case.name) cases

abbrev skips : List Case → List Verdict
skips cases = map (λ (case : Case). Skip) cases

skips_extend : (cases : List Case) (c : Run) → Extends (skip_lines c.rig.sim.time cases) (skips cases) 0 c (with_skips cases c)
skips_extend cases c = record { lines_are = refl; verdicts_are = refl; cost_is = omega arith }

judged_extends : (reason : Option (List ℕ)) (case : Case) (c : Run)
    → Extends (verdict_line c.rig.sim.time case.name reason ∷ []) (verdict_of reason ∷ []) 0 c (judged reason case c)
judged_extends reason case c = record { lines_are = refl; verdicts_are = refl; cost_is = omega arith }

-- tests that are skipped, and the begin of the next one
begins_same : (setup : Setup) (cases : List Case) (n : Counts) (ls : List (List ℕ)) (vs : List Verdict) (k : ℕ) (c : Run)
    → AddTheSame c (other n ls vs k c) (step_at setup (Begins cases) c) (step_at setup (Begins cases) (other n ls vs k c))
begins_same setup cases n ls vs k c =
    let d : Run = other n ls vs k c in
    let time : ℕ = c.rig.sim.time in
    let c' : Run = with_skips (skipped cases) c in
    let d' : Run = with_skips (skipped cases) d in
    same_behind (skip_lines time (skipped cases)) (skips (skipped cases)) 0 c d c' d' (begun setup (unskipped cases) c') (begun setup (unskipped cases) d')
    (skips_extend (skipped cases) c) (skips_extend (skipped cases) d) (begun_same n d'.lines d'.verdicts k setup (unskipped cases) c')

-- the end of a test, and tests that are skipped after it
ends_same : (setup : Setup) (case : Case) (cases : List Case) (o : Outcome) (n : Counts) (ls : List (List ℕ)) (vs : List Verdict) (k : ℕ) (c : Run)
    → AddTheSame c (other n ls vs k c) (step_in setup case cases (Some o) c) (step_in setup case cases (Some o) (other n ls vs k c))
ends_same setup case cases o n ls vs k c =
    let d : Run = other n ls vs k c in
    let time : ℕ = c.rig.sim.time in
    let reason : Option (List ℕ) = reason_of setup.flat case o in
    let c' : Run = judged reason case c in
    let d' : Run = judged reason case d in
    let c'' : Run = with_skips (skipped cases) c' in
    let d'' : Run = with_skips (skipped cases) d' in
    same_behind (verdict_line time case.name reason ∷ []) (verdict_of reason ∷ []) 0 c d c' d' (planned (unskipped cases) c'') (planned (unskipped cases) d'')
    (judged_extends reason case c) (judged_extends reason case d)
    (same_behind (skip_lines time (skipped cases)) (skips (skipped cases)) 0 c' d' c'' d'' (planned (unskipped cases) c'') (planned (unskipped cases) d'')
    (skips_extend (skipped cases) c') (skips_extend (skipped cases) d') (planned_same d''.rig.counts d''.lines d''.verdicts k (unskipped cases) c''))

closing_none : (o : Option ℕ) (cases : List Case) (c : Run) → closing_at (place_by o cases) c ≡ []
closing_none None cases c = refl
closing_none (Some time) cases c = refl

-- a step within a test
goes_on_same : (setup : Setup) (case : Case) (cases : List Case) (n : Counts) (ls : List (List ℕ)) (vs : List Verdict) (k : ℕ) (c : Run) → c.place ≡ Runs case cases
    → AddTheSame c (other n ls vs k c) (within (rig_step setup c.rig) c) (within (rig_step setup (with_counts n c.rig)) (other n ls vs k c))
goes_on_same setup case cases n ls vs k c q =
    let s : Stepped = rig_step setup c.rig in
    let t : Stepped = rig_step setup (with_counts n c.rig) in
    let h : SameStepped s t = step_blind setup n c.rig in
    let d : Run = other n ls vs k c in
    record {
      lines = s.lines;
      verdicts = [];
      cost = s.cost;
      one = open_adds s.lines [] s.cost c (within s c) (ap (λ (p : Place). closing_at p (within s c)) q)
          (record { lines_are = refl; verdicts_are = sym (append-nil c.verdicts); cost_is = refl });
      other = open_adds s.lines [] s.cost d (within t d) (ap (λ (p : Place). closing_at p (within t d)) q)
          (record { lines_are = ap (λ (x : List (List ℕ)). ls ++ x) h.lines; verdicts_are = sym (append-nil vs); cost_is = ap (λ (x : ℕ). k + x) h.cost });
      place = refl;
      rigs = h.rig;
    }

-- a step of the wait for the next test
waits_same : (setup : Setup) (cases : List Case) (n : Counts) (ls : List (List ℕ)) (vs : List Verdict) (k : ℕ) (c : Run)
    → AddTheSame c (other n ls vs k c) (step_at setup (Waits cases) c) (step_at setup (Waits cases) (other n ls vs k c))
waits_same setup cases n ls vs k c =
    let s : Stepped = rig_step setup c.rig in
    let t : Stepped = rig_step setup (with_counts n c.rig) in
    let h : SameStepped s t = step_blind setup n c.rig in
    let d : Run = other n ls vs k c in
    let c' : Run = placed cases (within s c) in
    let d' : Run = placed cases (within t d) in
    record {
      lines = s.lines;
      verdicts = [];
      cost = s.cost;
      one = open_adds s.lines [] s.cost c c' (closing_none s.rig.planned cases c')
          (record { lines_are = refl; verdicts_are = sym (append-nil c.verdicts); cost_is = refl });
      other = open_adds s.lines [] s.cost d d' (closing_none t.rig.planned cases d')
          (record { lines_are = ap (λ (x : List (List ℕ)). ls ++ x) h.lines; verdicts_are = sym (append-nil vs); cost_is = ap (λ (x : ℕ). k + x) h.cost });
      place = ap (λ (r : Rig). place_by r.planned cases) h.rig;
      rigs = h.rig;
    }

in_same : (setup : Setup) (case : Case) (cases : List Case) (o : Option Outcome) (n : Counts) (ls : List (List ℕ)) (vs : List Verdict) (k : ℕ) (c : Run) → c.place ≡ Runs case cases
    → AddTheSame c (other n ls vs k c) (step_in setup case cases o c) (step_in setup case cases o (other n ls vs k c))
in_same setup case cases (Some o) n ls vs k c q = ends_same setup case cases o n ls vs k c
in_same setup case cases None n ls vs k c q = goes_on_same setup case cases n ls vs k c q

at_same : (setup : Setup) (p : Place) (n : Counts) (ls : List (List ℕ)) (vs : List Verdict) (k : ℕ) (c : Run) → c.place ≡ p → is_over p ≡ false
    → AddTheSame c (other n ls vs k c) (step_at setup p c) (step_at setup p (other n ls vs k c))
at_same setup (Begins cases) n ls vs k c q h = begins_same setup cases n ls vs k c
at_same setup (Runs case cases) n ls vs k c q h = in_same setup case cases c.rig.outcome n ls vs k c q
at_same setup (Waits cases) n ls vs k c q h = waits_same setup cases n ls vs k c
at_same setup Over n ls vs k c q h = cc

-- a run that is over stays as it is, and another has no closing line yet
over_stays : (setup : Setup) (p : Place) (c : Run) → is_over p ≡ true → step_at setup p c ≡ c
over_stays setup (Begins cases) c h = cc
over_stays setup (Runs case cases) c h = cc
over_stays setup (Waits cases) c h = cc
over_stays setup Over c h = refl

no_closing : (p : Place) (c : Run) → is_over p ≡ false → closing_at p c ≡ []
no_closing (Begins cases) c h = refl
no_closing (Runs case cases) c h = refl
no_closing (Waits cases) c h = refl
no_closing Over c h = cc

-- a step of two runs that have added the same
step_same : (setup : Setup) (c d c' d' : Run) → AddTheSame c d c' d' → AddTheSame c d (step setup c') (step setup d')
step_same setup c d c' d' h = decided (is_over c'.place) refl
  where
    same : d' ≡ other d'.rig.counts d'.lines d'.verdicts d'.cost c'
    same =
        let of : Rig → Place → Run = λ r p. record { rig = r; place = p; lines = d'.lines; verdicts = d'.verdicts; cost = d'.cost } in
        ap (λ (r : Rig). of r d'.place) h.rigs ∙ ap (λ (p : Place). of (with_counts d'.rig.counts c'.rig) p) h.place

    over_too : is_over d'.place ≡ is_over c'.place
    over_too = ap is_over h.place

    decided : (b : Bool) → is_over c'.place ≡ b → AddTheSame c d (step setup c') (step setup d')
    decided true o =
        let x : step setup c' ≡ c' = over_stays setup c'.place c' o in
        let y : step setup d' ≡ d' = over_stays setup d'.place d' (over_too ∙ o) in
        subst (λ (r : Run). AddTheSame c d r (step setup d')) (sym x) (subst (λ (r : Run). AddTheSame c d c' r) (sym y) h)
    decided false o =
        let next : AddTheSame c' d' (step setup c') (step setup d') =
        subst (λ (r : Run). AddTheSame c' r (step setup c') (step setup r)) (sym same)
        (at_same setup c'.place d'.rig.counts d'.lines d'.verdicts d'.cost c' refl o) in
        same_behind h.lines h.verdicts h.cost c d c' d' (step setup c') (step setup d')
        (adds_open h.lines h.verdicts h.cost c c' (no_closing c'.place c' o) h.one)
        (adds_open h.lines h.verdicts h.cost d d' (no_closing d'.place d' (over_too ∙ o)) h.other)
        next

-- ---- many steps

-- so many steps, whatever they cost
abbrev many : Setup → ℕ → Run → Run
many setup zero c = c
many setup (suc n) c = many setup n (step setup c)

many_same : (setup : Setup) (n : ℕ) (c d c' d' : Run) → AddTheSame c d c' d' → AddTheSame c d (many setup n c') (many setup n d')
many_same setup zero c d c' d' h = h
many_same setup (suc n) c d c' d' h = many_same setup n c d (step setup c') (step setup d') (step_same setup c d c' d' h)

-- a run that is over stays so
over_many : (setup : Setup) (n : ℕ) (c : Run) → is_over c.place ≡ true → many setup n c ≡ c
over_many setup zero c h = refl
over_many setup (suc n) c h = ap (many setup n) (over_stays setup c.place c h) ∙ over_many setup n c h

over_by : (over fits : Bool) → (not over && not fits) ≡ false → (not over && fits) ≡ false → over ≡ true
over_by true fits h k = refl
over_by false true h k = cc
over_by false false h k = cc

module _ (setup : Setup) (budget : ℕ) where
  over_stops : (c : Run) → is_over c.place ≡ true → goes setup budget c ≡ false
  over_stops c h = rw h refl

  over_meets_none : (c : Run) → is_over c.place ≡ true → meets_budget setup budget c ≡ false
  over_meets_none c h = rw h refl

  no_step : (c : Run) → steps setup budget 0 c ≡ c
  unfolding steps
  no_step c = refl

  -- a budget that isn't met takes no step away
  steps_many : (n : ℕ) (c : Run) → meets_budget setup budget (steps setup budget n c) ≡ false → steps setup budget n c ≡ many setup n c
  steps_many zero c h = no_step c
  steps_many (suc n) c h = decided (goes setup budget c) refl (steps_many n (step setup c))
    where
      decided : (b : Bool) → goes setup budget c ≡ b
          → (meets_budget setup budget (steps setup budget n (step setup c)) ≡ false → steps setup budget n (step setup c) ≡ many setup n (step setup c))
          → steps setup budget (suc n) c ≡ many setup (suc n) c
      decided true g more =
          let one : steps setup budget (suc n) c ≡ steps setup budget n (step setup c) = steps_one setup budget n c g in
          one ∙ more (ap (meets_budget setup budget) (sym one) ∙ h)
      decided false g more =
          let stays : steps setup budget (suc n) c ≡ c = steps_none setup budget (suc n) c g in
          let over : is_over c.place ≡ true =
          over_by (is_over c.place) (nat_le (c.cost + step_cost setup c) budget) (ap (meets_budget setup budget) (sym stays) ∙ h) g in
          stays ∙ sym (over_many setup (suc n) c over)

  -- steps after steps
  steps_more : (n m : ℕ) (c : Run) → steps setup budget m (steps setup budget n c) ≡ steps setup budget (n + m) c
  steps_more zero m c = ap (steps setup budget m) (no_step c) ∙ ap (λ (x : ℕ). steps setup budget x c) (let e : m ≡ 0 + m = omega arith in e)
  steps_more (suc n) m c = decided (goes setup budget c) refl (steps_more n m (step setup c)) ∙ ap (λ (x : ℕ). steps setup budget x c) (let e : suc (n + m) ≡ suc n + m = omega arith in e)
    where
      decided : (b : Bool) → goes setup budget c ≡ b → steps setup budget m (steps setup budget n (step setup c)) ≡ steps setup budget (n + m) (step setup c)
          → steps setup budget m (steps setup budget (suc n) c) ≡ steps setup budget (suc (n + m)) c
      decided true g more = ap (steps setup budget m) (steps_one setup budget n c g) ∙ more ∙ sym (steps_one setup budget (n + m) c g)
      decided false g more =
          ap (steps setup budget m) (steps_none setup budget (suc n) c g) ∙ steps_none setup budget m c g ∙ sym (steps_none setup budget (suc (n + m)) c g)

  -- a run that is over after some steps is over after more, wherever these are counted from
  over_after : (early all late : ℕ) (start last : Run) → last ≡ steps setup budget all start → is_over last.place ≡ true → all ≤ late
      → last ≡ steps setup budget late (steps setup budget early start)
  over_after early all late start last e h l =
      let more : ℕ = (early + late) - all in
      let sum : all + more ≡ early + late = omega arith in
      sym (steps_none setup budget more last (over_stops last h)) ∙ ap (steps setup budget more) e ∙ steps_more all more start
      ∙ ap (λ (x : ℕ). steps setup budget x start) sum ∙ sym (steps_more early late start)

-- ---- the laws

-- two runs that agree between tests have added nothing yet
agree_same : (c d : Run) → AgreeBetween c d → AddTheSame c d c d
agree_same c d a = record {
  lines = [];
  verdicts = [];
  cost = 0;
  one = nothing c a.one;
  other = nothing d a.other;
  place = a.other.place ∙ ap (λ (o : Option ℕ). place_by o a.left) a.planned ∙ sym a.one.place;
  rigs = a.other.idle ∙ agrees ∙ ap (with_counts d.rig.counts) (sym a.one.idle);
}
  where
    agrees : idle d.rig.sim d.rig.planned d.rig.random d.rig.counts ≡ idle c.rig.sim c.rig.planned c.rig.random d.rig.counts
    agrees = cc (a.sim, a.planned, a.random)

    none : (e : Run) → IsBetween a.left e → closing e ≡ []
    none e b = ap (λ (p : Place). closing_at p e) b.place ∙ closing_none e.rig.planned a.left e

    nothing : (e : Run) → IsBetween a.left e → Adds [] [] 0 e e
    nothing e b = adds_closing e e (sym (ap (λ (t : List (List ℕ)). e.lines ++ t) (none e b) ∙ append-nil e.lines)) refl refl

pub separate_tests : SeparateTests
separate_tests setup budget budget' c d a count h k =
    subst (λ (r : Run). AddTheSame c d r (steps setup budget' count d)) (sym (steps_many setup budget count c h))
    (subst (λ (r : Run). AddTheSame c d (many setup count c) r) (sym (steps_many setup budget' count d k)) (many_same setup count c d c d (agree_same c d a)))

pub separate_runs : SeparateRuns
separate_runs setup seed seed' cases cases' budget budget' c d last last' h k a =
    let count : ℕ = h.run.count + k.run.count in
    let start : Run = opening setup seed cases in
    let start' : Run = opening setup seed' cases' in
    let x : last ≡ steps setup budget count c =
    over_after setup budget h.count h.run.count count start last h.run.reached h.over (omega arith) ∙ ap (steps setup budget count) (sym h.came_by) in
    let y : last' ≡ steps setup budget' count d =
    over_after setup budget' k.count k.run.count count start' last' k.run.reached k.over (omega arith) ∙ ap (steps setup budget' count) (sym k.came_by) in
    subst (λ (r : Run). AddTheSame c d r last') (sym x) (subst (λ (r : Run). AddTheSame c d (steps setup budget count c) r) (sym y)
    (separate_tests setup budget budget' c d a count
    (ap (meets_budget setup budget) (sym x) ∙ over_meets_none setup budget last h.over)
    (ap (meets_budget setup budget') (sym y) ∙ over_meets_none setup budget' last' k.over)))
