-- Steps one after another.
use Rattle.std.proofs.Common.{◌≡◌, ℕ, zero, suc, ◌+◌, ◌-◌, ◌≤◌, ◌<◌, Bool, true, List, [], ◌∷◌, ◌++◌, None, refl, ap, sym, subst, arith, ◌∙◌, append_assoc, append-nil}
use Rattle.rig_model.specs.Run.Rig.{Rig, Setup}
use Rattle.rig_model.specs.Run.Step.{Stepped, rig_step, resumed}
use Rattle.rig_model.specs.Parts.Steps.{FitSteps, TurnSteps, anywhere, in_turn, Moves, Short, NoFit, SameRest, behind}
use Rattle.await_tree.specs.declared.wait_list.ready.Entry.{Entry}

module _ (from : Rig → Bool) (setup : Setup) where
  pub fit_then : (j k fuel : ℕ) (c : Rig) (xs : List (List ℕ)) (f : ℕ) (d : Rig) (ys : List (List ℕ)) (g : ℕ) (e : Rig)
      → FitSteps from setup j fuel c xs f d → FitSteps from setup k f d ys g e → FitSteps from setup (j + k) fuel c (xs ++ ys) g e
  unfolding FitSteps
  fit_then zero k fuel c xs f d ys g e p q = let z : zero + k ≡ k = omega arith in rw (z, p.0, ← p.1, ← p.2) q
  fit_then (suc j) k fuel c xs f d ys g e p q =
      let s : suc j + k ≡ suc (j + k) = omega arith in
      subst (λ (n : ℕ). FitSteps from setup n fuel c (xs ++ ys) g e) (sym s) (
        p.0 ++ ys,
        p.1,
        p.2,
        p.3,
        ap (λ (zs : List (List ℕ)). zs ++ ys) p.4 ∙ append_assoc (rig_step setup c).lines p.0 ys,
        fit_then j k (fuel - (rig_step setup c).cost) (rig_step setup c).rig p.0 f d ys g e p.5 q,
      )

  -- one step
  pub fit_one : (fuel : ℕ) (c : Rig) (s : Stepped) → from c ≡ true → c.outcome ≡ None → rig_step setup c ≡ s → s.cost ≤ fuel → FitSteps from setup 1 fuel c s.lines (fuel - s.cost) s.rig
  unfolding FitSteps
  fit_one fuel c s t o e h = let h' : (rig_step setup c).cost ≤ fuel = rw e h in ([], t, o, h', rw (e, append-nil) refl, (refl, rw e refl, rw e refl))

  pub moves_then : (fuel : ℕ) (c : Rig) (xs : List (List ℕ)) (f : ℕ) (d : Rig) (ys : List (List ℕ)) (g : ℕ) (e : Rig)
      → Moves (FitSteps from setup) fuel c xs f d → Moves (FitSteps from setup) f d ys g e → Moves (FitSteps from setup) fuel c (xs ++ ys) g e
  moves_then fuel c xs f d ys g e p q =
      let s : suc p.count + suc q.count ≡ suc (p.count + suc q.count) = omega arith in
      record {
        count = p.count + suc q.count;
        steps = subst (λ (n : ℕ). FitSteps from setup n fuel c (xs ++ ys) g e) s (fit_then (suc p.count) (suc q.count) fuel c xs f d ys g e p.steps q.steps);
      }

  pub moves_short : (fuel : ℕ) (c : Rig) (xs : List (List ℕ)) (f : ℕ) (d : Rig) (ys : List (List ℕ)) (g : ℕ) (e : Rig)
      → Moves (FitSteps from setup) fuel c xs f d → Short (FitSteps from setup) setup f d ys g e → Short (FitSteps from setup) setup fuel c (xs ++ ys) g e
  moves_short fuel c xs f d ys g e p q =
      record { count = suc p.count + q.count; last = q.last; steps = fit_then (suc p.count) q.count fuel c xs f d ys g q.last p.steps q.steps; no_fit = q.no_fit }

  pub moves_one : (fuel : ℕ) (c : Rig) (s : Stepped) → from c ≡ true → c.outcome ≡ None → rig_step setup c ≡ s → s.cost ≤ fuel → Moves (FitSteps from setup) fuel c s.lines (fuel - s.cost) s.rig
  moves_one fuel c s t o e h = record { count = zero; steps = fit_one fuel c s t o e h }

-- steps of a turn are steps
pub fit_anywhere : (from : Rig → Bool) (setup : Setup) (n fuel : ℕ) (c : Rig) (lines : List (List ℕ)) (fuel' : ℕ) (d : Rig)
    → FitSteps from setup n fuel c lines fuel' d → FitSteps anywhere setup n fuel c lines fuel' d
unfolding FitSteps
fit_anywhere from setup zero fuel c lines fuel' d h = h
fit_anywhere from setup (suc n) fuel c lines fuel' d h =
    (h.0, refl, h.2, h.3, h.4, fit_anywhere from setup n (fuel - (rig_step setup c).cost) (rig_step setup c).rig h.0 fuel' d h.5)

pub turn_anywhere : (setup : Setup) (n fuel : ℕ) (c : Rig) (lines : List (List ℕ)) (fuel' : ℕ) (d : Rig)
    → TurnSteps setup n fuel c lines fuel' d → FitSteps anywhere setup n fuel c lines fuel' d
unfolding FitSteps TurnSteps
turn_anywhere setup zero fuel c lines fuel' d h = h
turn_anywhere setup (suc n) fuel c lines fuel' d h =
    (h.0, refl, h.1, h.2, h.3, fit_anywhere in_turn setup n (fuel - (rig_step setup c).cost) (rig_step setup c).rig h.0 fuel' d h.4)

-- one step is a turn
pub turn_one : (setup : Setup) (fuel : ℕ) (c : Rig) (s : Stepped) → c.outcome ≡ None → rig_step setup c ≡ s → s.cost ≤ fuel → Moves (TurnSteps setup) fuel c s.lines (fuel - s.cost) s.rig
unfolding FitSteps TurnSteps
turn_one setup fuel c s o e h = let h' : (rig_step setup c).cost ≤ fuel = rw e h in record { count = zero; steps = ([], o, h', rw (e, append-nil) refl, (refl, rw e refl, rw e refl)) }

pub same_rest : (c : Rig) → SameRest c c
same_rest c = record {
  sim = refl;
  endings = refl;
  waiting = refl;
  objects = refl;
  queues = refl;
  staged = refl;
  fired = refl;
  deadline = refl;
  planned = refl;
  random = refl;
  counts = refl;
}

-- no step fits, and it is none of a ready task
pub turn_none : (setup : Setup) (fuel : ℕ) (c : Rig) (s : Stepped) → c.outcome ≡ None → behind c.running c.ready ≡ c.ready → rig_step setup c ≡ s → fuel < s.cost
    → Short (TurnSteps setup) setup fuel c [] fuel c
unfolding TurnSteps
turn_none setup fuel c s o b e h = record {
  count = zero;
  last = c;
  steps = (refl, refl, refl);
  no_fit = record {
    runs = o;
    short = rw e h;
    rest = same_rest c;
    tasks = record { tasks = refl; ready = b };
  };
}

module _ (setup : Setup) (c : Rig) (e : Entry) (es : List Entry) (runs : c.running ≡ None) (first : c.ready ≡ e ∷ es) (goes : c.outcome ≡ None) where
  -- the first that is ready runs: the step is that of the task in whose turn we then are
  same_step : rig_step setup c ≡ rig_step setup (resumed e es c)
  same_step = rw (runs, first) refl

  pub resumed_steps : (n fuel : ℕ) (lines : List (List ℕ)) (fuel' : ℕ) (d : Rig) → FitSteps in_turn setup (suc n) fuel (resumed e es c) lines fuel' d → TurnSteps setup (suc n) fuel c lines fuel' d
  unfolding FitSteps TurnSteps
  resumed_steps n fuel lines fuel' d h = rw same_step (h.0, goes, h.3, h.4, h.5)

  pub resumed_moves : (fuel : ℕ) (lines : List (List ℕ)) (fuel' : ℕ) (d : Rig) → Moves (FitSteps in_turn setup) fuel (resumed e es c) lines fuel' d → Moves (TurnSteps setup) fuel c lines fuel' d
  resumed_moves fuel lines fuel' d m = record { count = m.count; steps = resumed_steps m.count fuel lines fuel' d m.steps }

  pub resumed_short : (fuel : ℕ) (lines : List (List ℕ)) (fuel' : ℕ) (d : Rig) → Short (FitSteps in_turn setup) setup fuel (resumed e es c) lines fuel' d → Short (TurnSteps setup) setup fuel c lines fuel' d
  unfolding FitSteps TurnSteps
  resumed_short fuel lines fuel' d s = by_count s.count s.last s.steps s.no_fit
    where
      by_count : (n : ℕ) (last : Rig) → FitSteps in_turn setup n fuel (resumed e es c) lines fuel' last → NoFit setup fuel' last d → Short (TurnSteps setup) setup fuel c lines fuel' d
      by_count zero last h f =
          let g : NoFit setup fuel' (resumed e es c) d = subst (λ (x : Rig). NoFit setup fuel' x d) h.2 f in
          record {
            count = zero;
            last = c;
            steps = (h.0, h.1, refl);
            no_fit = record {
              runs = goes;
              short = rw same_step g.short;
              rest = record {
                sim = g.rest.sim;
                endings = g.rest.endings;
                waiting = g.rest.waiting;
                objects = g.rest.objects;
                queues = g.rest.queues;
                staged = g.rest.staged;
                fired = g.rest.fired;
                deadline = g.rest.deadline;
                planned = g.rest.planned;
                random = g.rest.random;
                counts = g.rest.counts;
              };
              tasks = record { tasks = g.tasks.tasks; ready = rw (runs, first) g.tasks.ready };
            };
          }
      by_count (suc n) last h f = record { count = suc n; last = last; steps = resumed_steps n fuel lines fuel' last h; no_fit = f }
