-- Turns while the start of the next test is planned.
use Rattle.std.proofs.Common.{◌≡◌, ℕ, zero, suc, ◌<◌, true, false, List, [], Option, None, Some, Result, Ok, Err, IsErr, refl, ap, sym, subst, ◌∙◌, ◌⊎◌, inl, inr}
use Rattle.std.specs.Prelude.{is_some}
use Rattle.port_io.specs.Means.{SinkMeans}
use Rattle.port_io.specs.declared.ports.NoMemory.{NoMemory}
use Rattle.rig_model.specs.Run.Rig.{Rig, Setup}
use Rattle.rig_model.specs.declared.run.outcome.Outcome.{Outcome}
use Rattle.rig_model.specs.Parts.Runs.{is_planned}
use Rattle.rig_model.specs.Parts.Steps.{FitSteps, TurnSteps, anywhere, Moves, Begins}
use Rattle.scheduler.proofs.ManyTurns.{turning_anywhere}
use Rattle.scheduler.proofs.StepsLeft.{steps_fall, steps_left}
use Rattle.scheduler.proofs.Between.{one_step}
use Rattle.scheduler.proofs.TurnLaws.{turning_then}
use Rattle.scheduler.proofs.TurnWaits.{IsAfter, step_waits}
use Rattle.scheduler.specs.BetweenTests.{between, IsBetween}
use Rattle.scheduler.specs.Turns.{TurnsTo, Turning, has_gone}
use Rattle.scheduler.specs.declared.turned.Turn.{Turn}
use Rattle.scheduler.specs.declared.turned.Turn.TheVariants as turn
use Rattle.command.specs.Regression.Stages.{IsEmpty, WaitTurns, WaitsTo}
use Rattle.command.proofs.RegressionLemmas.Stands.{empty_of}

-- ---- what is left between two tests

pub between_planned : (c : Rig) → IsBetween c → is_planned c ≡ true
between_planned c b = ap is_planned b.is

between_quiet : (c : Rig) → IsBetween c → c.running ≡ None
between_quiet c b = ap (λ (x : Rig). x.running) b.is

pub between_ready : (c : Rig) → IsBetween c → c.ready ≡ []
between_ready c b = ap (λ (x : Rig). x.ready) b.is

between_again : (c : Rig) → IsAfter c → is_planned c ≡ true → IsBetween c
between_again c a p = by_start a.planned a.is (sym (ap is_planned a.is) ∙ p)
  where
    by_start : (o : Option ℕ) → c ≡ between a.sim a.random a.counts o [] → is_some o ≡ true → IsBetween c
    by_start None e h = cc
    by_start (Some time) e h = record { sim = a.sim; random = a.random; counts = a.counts; time = time; is = e }

after_empty : (c : Rig) → IsAfter c → c.planned ≡ None → IsEmpty c
after_empty c a n =
    let none : a.planned ≡ None = sym (ap (λ (x : Rig). x.planned) a.is) ∙ n in
    empty_of c a.sim a.random a.counts (a.is ∙ ap (λ (o : Option ℕ). between a.sim a.random a.counts o []) none)

-- ---- a turn is one step

module _ (setup : Setup) (c : Rig) (b : IsBetween c) where
  turn_planned : (n fuel : ℕ) (lines : List (List ℕ)) (fuel' : ℕ) (d : Rig) → TurnSteps setup n fuel c lines fuel' d → FitSteps is_planned setup n fuel c lines fuel' d
  unfolding TurnSteps FitSteps
  turn_planned zero fuel lines fuel' d h = h
  turn_planned (suc n) fuel lines fuel' d h = by_count n (one_step setup n fuel c lines fuel' d (between_quiet c b) (between_ready c b) h) h
    where
      by_count : (k : ℕ) → k ≡ 0 → TurnSteps setup (suc k) fuel c lines fuel' d → FitSteps is_planned setup (suc k) fuel c lines fuel' d
      by_count zero e t = (t.0, between_planned c b, t.1, t.2, t.3, t.4)
      by_count (suc k) e t = cc

  turn_after : (fuel : ℕ) (lines : List (List ℕ)) (fuel' : ℕ) (d : Rig) → Moves (TurnSteps setup) fuel c lines fuel' d → IsAfter d
  unfolding TurnSteps FitSteps
  turn_after fuel lines fuel' d m = by_count m.count (one_step setup m.count fuel c lines fuel' d (between_quiet c b) (between_ready c b) m.steps) m.steps
    where
      by_count : (k : ℕ) → k ≡ 0 → TurnSteps setup (suc k) fuel c lines fuel' d → IsAfter d
      by_count zero e t = subst IsAfter (sym t.4.2) (step_waits setup c b).after
      by_count (suc k) e t = cc

  moves_planned : (fuel : ℕ) (lines : List (List ℕ)) (fuel' : ℕ) (e : Rig) → Moves (TurnSteps setup) fuel c lines fuel' e → Moves (FitSteps is_planned setup) fuel c lines fuel' e
  moves_planned fuel lines fuel' e m = record { count = m.count; steps = turn_planned (suc m.count) fuel lines fuel' e m.steps }

  begins_planned : (fuel : ℕ) (lines : List (List ℕ)) → Begins (TurnSteps setup) fuel c lines → Begins (FitSteps is_planned setup) fuel c lines
  begins_planned fuel lines h = record { count = h.count; left = h.left; last = h.last; steps = turn_planned h.count fuel lines h.left h.last h.steps }

  turns_planned : (fuel : ℕ) (lines : List (List ℕ)) (r : Result Turn NoMemory) (fuel' : ℕ) (e : Rig) → TurnsTo (TurnSteps setup) setup fuel c lines r fuel' e → TurnsTo (FitSteps is_planned setup) setup fuel c lines r fuel' e
  turns_planned fuel lines (Ok turn.Went) fuel' e h = (moves_planned fuel lines fuel' e h.0, h.1)
  turns_planned fuel lines (Ok turn.Due) fuel' e h = (moves_planned fuel lines fuel' e h.0, h.1, h.2)
  turns_planned fuel lines (Ok (turn.Over o)) fuel' e h = moves_planned fuel lines fuel' (record e { outcome = Some o }) h
  turns_planned fuel lines (Ok turn.Spent) fuel' e h = record { count = h.count; last = h.last; steps = turn_planned h.count fuel lines fuel' h.last h.steps; no_fit = h.no_fit }
  turns_planned fuel lines (Ok turn.WriteFault) fuel' e h = begins_planned fuel lines h
  turns_planned fuel lines (Err x) fuel' e h = begins_planned fuel lines h

  -- no test gets an outcome
  never_over : (fuel : ℕ) (lines : List (List ℕ)) (fuel' : ℕ) (e : Rig) (o : Outcome) → Moves (TurnSteps setup) fuel c lines fuel' (record e { outcome = Some o }) → ⊥
  never_over fuel lines fuel' e o m =
      let a : IsAfter (record e { outcome = Some o }) = turn_after fuel lines fuel' (record e { outcome = Some o }) m in
      let k : Some o ≡ None = ap (λ (x : Rig). x.outcome) a.is in
      cc

  -- how such a turn ends that doesn't go on
  ends_so : (fuel : ℕ) (lines : List (List ℕ)) (r : Result Turn NoMemory) (fuel' : ℕ) (e : Rig) → has_gone r ≡ false → (r ≡ Ok turn.Spent → e ≡ c)
      → TurnsTo (TurnSteps setup) setup fuel c lines r fuel' e → WaitsTo r e
  ends_so fuel lines (Ok turn.Went) fuel' e n s h = cc
  ends_so fuel lines (Ok turn.Due) fuel' e n s h = after_empty e (turn_after fuel lines fuel' e h.0) h.2
  ends_so fuel lines (Ok (turn.Over o)) fuel' e n s h = never_over fuel lines fuel' e o h
  ends_so fuel lines (Ok turn.Spent) fuel' e n s h = ap is_planned (s refl) ∙ between_planned c b
  ends_so fuel lines (Ok turn.WriteFault) fuel' e n s h = tt
  ends_so fuel lines (Err x) fuel' e n s h = tt

module _ {O : Type 0} (sink : SinkMeans O) (setup : Setup) where
  turning_planned : (setup' : Setup) (fuel : ℕ) (c : Rig) (out : O) (r : Result Turn NoMemory) (fuel' : ℕ) (e : Rig) (out' : O) → setup' ≡ setup → IsBetween c
      → Turning sink (TurnSteps setup') setup' fuel c out r fuel' e out' → Turning sink (FitSteps is_planned setup) setup fuel c out r fuel' e out'
  turning_planned setup' fuel c out r fuel' e out' s b t =
      subst (λ (x : Setup). Turning sink (FitSteps is_planned x) x fuel c out r fuel' e out') s
      (record { lines = t.lines; turns = turns_planned setup' c b fuel t.lines r fuel' e t.turns; puts = t.puts })

  -- a turn that doesn't go on is the last one
  pub waits_end : (setup' : Setup) (fuel : ℕ) (c : Rig) (out : O) (r : Result Turn NoMemory) (fuel' : ℕ) (e : Rig) (out' : O) → setup' ≡ setup → IsBetween c
      → has_gone r ≡ false → (r ≡ Ok turn.Spent → e ≡ c) → Turning sink (TurnSteps setup') setup' fuel c out r fuel' e out' → WaitTurns sink setup fuel c out r fuel' e out'
  waits_end setup' fuel c out r fuel' e out' s b n same t = record {
    turning = turning_planned setup' fuel c out r fuel' e out' s b t;
    ends = ends_so setup' c b fuel t.lines r fuel' e n same t.turns;
  }

  -- memory was short
  pub waits_err : (setup' : Setup) (fuel : ℕ) (c : Rig) (out : O) (x : NoMemory) (r : Result Turn NoMemory) (fuel' : ℕ) (e : Rig) (out' : O) → setup' ≡ setup → IsErr r → IsBetween c
      → Turning sink (TurnSteps setup') setup' fuel c out (Err x) fuel' e out' → WaitTurns sink setup fuel c out r fuel' e out'
  waits_err setup' fuel c out x (Ok t) fuel' e out' s h b p = cc
  waits_err setup' fuel c out x (Err y) fuel' e out' s h b p =
      let q : Turning sink (FitSteps is_planned setup) setup fuel c out (Err x) fuel' e out' = turning_planned setup' fuel c out (Err x) fuel' e out' s b p in
      record { turning = record { lines = q.lines; turns = q.turns; puts = q.puts }; ends = tt }

  -- a turn that went, and then others
  pub waits_then : (setup' : Setup) (fuel : ℕ) (c : Rig) (out : O) (a : Result Turn NoMemory) (f : ℕ) (d : Rig) (mid : O) (r : Result Turn NoMemory) (fuel' : ℕ) (e : Rig) (out' : O)
      → setup' ≡ setup → a ≡ Ok turn.Went → IsBetween c → Turning sink (TurnSteps setup') setup' fuel c out a f d mid
      → WaitTurns sink setup f d mid r fuel' e out' → WaitTurns sink setup fuel c out r fuel' e out'
  waits_then setup' fuel c out a f d mid r fuel' e out' s h b t more =
      let first : Turning sink (FitSteps is_planned setup) setup fuel c out (Ok turn.Went) f d mid
      = subst (λ (x : Result Turn NoMemory). Turning sink (FitSteps is_planned setup) setup fuel c out x f d mid) h (turning_planned setup' fuel c out a f d mid s b t) in
      record { turning = turning_then sink is_planned setup fuel c out first.lines f d mid r fuel' e out' first.turns.1 first.turns.0 first.puts more.turning; ends = more.ends }

  -- after a turn that went it is between the tests still
  pub between_still : (setup' : Setup) (fuel : ℕ) (c : Rig) (out : O) (a : Result Turn NoMemory) (f : ℕ) (d : Rig) (mid : O) → a ≡ Ok turn.Went → IsBetween c
      → Turning sink (TurnSteps setup') setup' fuel c out a f d mid → IsBetween d
  between_still setup' fuel c out a f d mid h b t =
      let u : TurnsTo (TurnSteps setup') setup' fuel c t.lines (Ok turn.Went) f d = subst (λ (x : Result Turn NoMemory). TurnsTo (TurnSteps setup') setup' fuel c t.lines x f d) h t.turns in
      between_again d (turn_after setup' c b fuel t.lines f d u.0) (u.1 ∙ between_planned c b)

  -- and in a test no start is planned still
  went_planned : (setup' : Setup) (fuel : ℕ) (c : Rig) (out : O) (a : Result Turn NoMemory) (f : ℕ) (d : Rig) (mid : O) → a ≡ Ok turn.Went
      → Turning sink (TurnSteps setup') setup' fuel c out a f d mid → is_some d.planned ≡ is_some c.planned
  went_planned setup' fuel c out a f d mid h t =
      let u : TurnsTo (TurnSteps setup') setup' fuel c t.lines (Ok turn.Went) f d = subst (λ (x : Result Turn NoMemory). TurnsTo (TurnSteps setup') setup' fuel c t.lines x f d) h t.turns in
      u.1

  none_of : (o : Option ℕ) → is_some o ≡ false → o ≡ None
  none_of None h = refl
  none_of (Some time) h = cc

  pub place_still : (setup' : Setup) (fuel : ℕ) (c : Rig) (out : O) (a : Result Turn NoMemory) (f : ℕ) (d : Rig) (mid : O) → a ≡ Ok turn.Went → (c.planned ≡ None) ⊎ IsBetween c
      → Turning sink (TurnSteps setup') setup' fuel c out a f d mid → (d.planned ≡ None) ⊎ IsBetween d
  place_still setup' fuel c out a f d mid h (inl n) t = inl (none_of d.planned (went_planned setup' fuel c out a f d mid h t ∙ ap (λ (o : Option ℕ). is_some o) n))
  place_still setup' fuel c out a f d mid h (inr b) t = inr (between_still setup' fuel c out a f d mid h b t)

-- what a turn needs
pub alone : (c : Rig) → (c.planned ≡ None) ⊎ IsBetween c → (c.planned ≡ None) ⊎ (c.ready ≡ [])
alone c (inl n) = inl n
alone c (inr b) = inr (between_ready c b)

-- an answer that doesn't say that the turn went
pub not_gone : (t : Turn) → (t ≡ turn.Went → ⊥) → has_gone (Ok t) ≡ false
not_gone turn.Went n = absurd (n refl)
not_gone turn.Due n = refl
not_gone (turn.Over o) n = refl
not_gone turn.Spent n = refl
not_gone turn.WriteFault n = refl

-- after a turn that went fewer steps are left
pub turns_fall : {O : Type 0} (sink : SinkMeans O) (setup setup' : Setup) (fuel : ℕ) (c : Rig) (out : O) (a : Result Turn NoMemory) (f : ℕ) (d : Rig) (mid : O)
    → setup' ≡ setup → a ≡ Ok turn.Went → Turning sink (TurnSteps setup') setup' fuel c out a f d mid → steps_left anywhere setup f d < steps_left anywhere setup fuel c
turns_fall sink setup setup' fuel c out a f d mid s h t =
    let q : Turning sink (FitSteps anywhere setup) setup fuel c out a f d mid = turning_anywhere sink setup setup' fuel c out a f d mid s t in
    let u : TurnsTo (FitSteps anywhere setup) setup fuel c q.lines (Ok turn.Went) f d = subst (λ (x : Result Turn NoMemory). TurnsTo (FitSteps anywhere setup) setup fuel c q.lines x f d) h q.turns in
    steps_fall anywhere setup fuel c q.lines f d u.0
