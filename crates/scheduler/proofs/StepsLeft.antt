-- How many steps are left, of those that begin where a configuration passes a test: a measure of loops over steps.
use Rattle.std.proofs.Common.{◌≡◌, ℕ, zero, suc, ◌+◌, ◌-◌, ◌<◌, ◌≤◌, ◌⊎◌, Bool, true, false, List, [], ◌++◌, Option, None, Some, refl, arith, rules, inl, inr}
use Rattle.std.specs.Prelude.{nat_le}
use Rattle.rig_model.specs.Run.Rig.{Rig, Setup}
use Rattle.rig_model.specs.Run.Step.{rig_step}
use Rattle.rig_model.specs.declared.run.outcome.Outcome.{Outcome}
use Rattle.rig_model.proofs.RunLemmas.Falls.{mass, rig_falls}
use Rattle.rig_model.specs.Parts.Steps.{FitSteps, Moves}
use Rattle.scheduler.proofs.StepLaws.{fit_then}

module _ (from : Rig → Bool) (setup : Setup) where
  -- So many steps may follow and no more.
  record Left (fuel : ℕ) (c : Rig) : Type 0 where
    count : ℕ
    lines : List (List ℕ)
    rest : ℕ
    last : Rig
    steps : FitSteps from setup count fuel c lines rest last
    most : (k : ℕ) (ls : List (List ℕ)) (f : ℕ) (d : Rig) → FitSteps from setup k fuel c ls f d → k ≤ count

  -- a step may follow
  record MayStep (fuel : ℕ) (c : Rig) : Type 0 where
    passes : from c ≡ true
    goes : c.outcome ≡ None
    fits : (rig_step setup c).cost ≤ fuel

  -- it may or not
  decide : (fuel : ℕ) (c : Rig) → MayStep fuel c ⊎ (MayStep fuel c → ⊥)
  decide fuel c = by_test (from c) refl
    where
      within : (n m : ℕ) → nat_le n m ≡ true → n ≤ m
      within n m h = search rules

      beyond : (n m : ℕ) → nat_le n m ≡ false → m < n
      beyond n m h = search rules

      by_cost : (b : Bool) → nat_le (rig_step setup c).cost fuel ≡ b → from c ≡ true → c.outcome ≡ None → MayStep fuel c ⊎ (MayStep fuel c → ⊥)
      by_cost true e p o = inl (record { passes = p; goes = o; fits = within (rig_step setup c).cost fuel e })
      by_cost false e p o = inr (λ m. let k : fuel < (rig_step setup c).cost = beyond (rig_step setup c).cost fuel e in let l : (rig_step setup c).cost ≤ fuel = m.fits in absurd (omega arith))

      by_outcome : (o : Option Outcome) → c.outcome ≡ o → from c ≡ true → MayStep fuel c ⊎ (MayStep fuel c → ⊥)
      by_outcome None e p = by_cost (nat_le (rig_step setup c).cost fuel) refl p e
      by_outcome (Some o) e p = inr (λ m. let g : c.outcome ≡ None = m.goes in cc)

      by_test : (b : Bool) → from c ≡ b → MayStep fuel c ⊎ (MayStep fuel c → ⊥)
      by_test true e = by_outcome c.outcome refl e
      by_test false e = inr (λ m. let p : from c ≡ true = m.passes in cc)

  -- none follows
  none_left : (fuel : ℕ) (c : Rig) → (MayStep fuel c → ⊥) → Left fuel c
  unfolding FitSteps
  none_left fuel c n = record { count = zero; lines = []; rest = fuel; last = c; steps = (refl, refl, refl); most = most }
    where
      most : (k : ℕ) (ls : List (List ℕ)) (f : ℕ) (d : Rig) → FitSteps from setup k fuel c ls f d → k ≤ zero
      most zero ls f d h = omega arith
      most (suc k) ls f d h = absurd (n (record { passes = h.1; goes = h.2; fits = h.3 }))

  -- one follows, and then those that are left
  one_more : (fuel : ℕ) (c : Rig) → MayStep fuel c → Left (fuel - (rig_step setup c).cost) (rig_step setup c).rig → Left fuel c
  unfolding FitSteps
  one_more fuel c m l = record {
    count = suc l.count;
    lines = (rig_step setup c).lines ++ l.lines;
    rest = l.rest;
    last = l.last;
    steps = (l.lines, m.passes, m.goes, m.fits, refl, l.steps);
    most = most;
  }
    where
      most : (k : ℕ) (ls : List (List ℕ)) (f : ℕ) (d : Rig) → FitSteps from setup k fuel c ls f d → k ≤ suc l.count
      most zero ls f d h = omega arith
      most (suc k) ls f d h = let i : k ≤ l.count = l.most k h.0 f d h.5 in omega arith

  -- at no cost the mass falls
  by_mass : (n : ℕ) → ((fuel : ℕ) (c : Rig) → fuel < n → Left fuel c) → (gas fuel : ℕ) (c : Rig) → fuel < suc n → mass c < gas → Left fuel c
  by_mass n less zero fuel c h g = absurd (omega arith)
  by_mass n less (suc gas) fuel c h g = elim (decide fuel c) [
    | inl m ↦ one_more fuel c m (elim (rig_falls setup c m.goes) [
      | inl paid ↦ less (fuel - (rig_step setup c).cost) (rig_step setup c).rig
          (let k : 0 < (rig_step setup c).cost = paid in let l : (rig_step setup c).cost ≤ fuel = m.fits in omega arith)
      | inr free ↦ by_mass n less gas (fuel - (rig_step setup c).cost) (rig_step setup c).rig (omega arith) (let k : mass (rig_step setup c).rig < mass c = free in omega arith)
    ])
    | inr m ↦ none_left fuel c m
  ]

  by_fuel : (n fuel : ℕ) (c : Rig) → fuel < n → Left fuel c
  by_fuel zero fuel c h = absurd (omega arith)
  by_fuel (suc n) fuel c h = by_mass n (by_fuel n) (suc (mass c)) fuel c h (omega arith)

  left : (fuel : ℕ) (c : Rig) → Left fuel c
  left fuel c = by_fuel (suc fuel) fuel c (omega arith)

  -- how many steps are left
  pub steps_left : ℕ → Rig → ℕ
  steps_left fuel c = (left fuel c).count

  -- after some of them fewer are left
  pub steps_fall : (fuel : ℕ) (c : Rig) (lines : List (List ℕ)) (fuel' : ℕ) (d : Rig) → Moves (FitSteps from setup) fuel c lines fuel' d → steps_left fuel' d < steps_left fuel c
  unfolding steps_left
  steps_fall fuel c lines fuel' d m =
      let then' : Left fuel' d = left fuel' d in
      let all : suc m.count + then'.count ≤ (left fuel c).count
      = (left fuel c).most (suc m.count + then'.count) (lines ++ then'.lines) then'.rest then'.last
      (fit_then from setup (suc m.count) then'.count fuel c lines fuel' d then'.lines then'.rest then'.last m.steps then'.steps) in
      omega arith
