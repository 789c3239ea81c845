-- After steps there is less fuel, or less is left to do.
use Rattle.std.proofs.Common.{◌≡◌, ℕ, zero, suc, ◌-◌, ◌<◌, ◌≤◌, ◌⊎◌, Bool, List, subst, sym, arith, inl, inr}
use Rattle.rig_model.specs.Run.Rig.{Rig, Setup}
use Rattle.rig_model.specs.Run.Step.{rig_step}
use Rattle.rig_model.proofs.RunLemmas.Falls.{mass, rig_falls}
use Rattle.rig_model.specs.Parts.Steps.{FitSteps, TurnSteps, in_turn, Moves}

-- a step of this cost, and then others
combined : (fuel cost f a b c : ℕ) → cost ≤ fuel → (0 < cost) ⊎ (b < a) → (f < fuel - cost) ⊎ ((f ≡ fuel - cost) × (c ≤ b)) → (f < fuel) ⊎ ((f ≡ fuel) × (c < a))
combined fuel zero f a b c h p q = by_rest q
  where
    below : (0 < zero) ⊎ (b < a) → b < a
    below (inl x) = omega arith
    below (inr x) = x

    by_rest : (f < fuel - zero) ⊎ ((f ≡ fuel - zero) × (c ≤ b)) → (f < fuel) ⊎ ((f ≡ fuel) × (c < a))
    by_rest (inl x) = inl (omega arith)
    by_rest (inr x) = let k : b < a = below p in let e : f ≡ fuel - zero = x.0 in let l : c ≤ b = x.1 in inr (omega arith, omega arith)
combined fuel (suc n) f a b c h p (inl x) = inl (omega arith)
combined fuel (suc n) f a b c h p (inr x) = let e : f ≡ fuel - suc n = x.0 in inl (omega arith)

weaker : (fuel f a c : ℕ) → (f < fuel) ⊎ ((f ≡ fuel) × (c < a)) → (f < fuel) ⊎ ((f ≡ fuel) × (c ≤ a))
weaker fuel f a c (inl x) = inl x
weaker fuel f a c (inr x) = let k : c < a = x.1 in inr (x.0, omega arith)

at_most : (fuel f a c : ℕ) → (f < fuel) ⊎ ((f ≡ fuel) × (c < a)) → (f < fuel) ⊎ ((f ≤ fuel) × (c < a))
at_most fuel f a c (inl x) = inl x
at_most fuel f a c (inr x) = let e : f ≡ fuel = x.0 in inr (omega arith, x.1)

-- steps or none
fit_less : (from : Rig → Bool) (setup : Setup) (n fuel : ℕ) (c : Rig) (lines : List (List ℕ)) (fuel' : ℕ) (d : Rig)
    → FitSteps from setup n fuel c lines fuel' d → (fuel' < fuel) ⊎ ((fuel' ≡ fuel) × (mass d ≤ mass c))
unfolding FitSteps
fit_less from setup zero fuel c lines fuel' d h =
    inr (h.1, subst (λ (x : Rig). mass x ≤ mass c) (sym h.2) (let k : mass c ≤ mass c = omega arith in k))
fit_less from setup (suc n) fuel c lines fuel' d h =
    weaker fuel fuel' (mass c) (mass d)
    (combined fuel (rig_step setup c).cost fuel' (mass c) (mass (rig_step setup c).rig) (mass d) h.3 (rig_falls setup c h.2)
    (fit_less from setup n (fuel - (rig_step setup c).cost) (rig_step setup c).rig h.0 fuel' d h.5))

-- one step or more
pub fit_falls : (from : Rig → Bool) (setup : Setup) (fuel : ℕ) (c : Rig) (lines : List (List ℕ)) (fuel' : ℕ) (d : Rig)
    → Moves (FitSteps from setup) fuel c lines fuel' d → (fuel' < fuel) ⊎ ((fuel' ≤ fuel) × (mass d < mass c))
unfolding FitSteps
fit_falls from setup fuel c lines fuel' d m =
    let h : FitSteps from setup (suc m.count) fuel c lines fuel' d = m.steps in
    at_most fuel fuel' (mass c) (mass d)
    (combined fuel (rig_step setup c).cost fuel' (mass c) (mass (rig_step setup c).rig) (mass d) h.3 (rig_falls setup c h.2)
    (fit_less from setup m.count (fuel - (rig_step setup c).cost) (rig_step setup c).rig h.0 fuel' d h.5))

pub turn_falls : (setup : Setup) (fuel : ℕ) (c : Rig) (lines : List (List ℕ)) (fuel' : ℕ) (d : Rig)
    → Moves (TurnSteps setup) fuel c lines fuel' d → (fuel' < fuel) ⊎ ((fuel' ≤ fuel) × (mass d < mass c))
unfolding TurnSteps
turn_falls setup fuel c lines fuel' d m =
    let h : TurnSteps setup (suc m.count) fuel c lines fuel' d = m.steps in
    at_most fuel fuel' (mass c) (mass d)
    (combined fuel (rig_step setup c).cost fuel' (mass c) (mass (rig_step setup c).rig) (mass d) h.2 (rig_falls setup c h.1)
    (fit_less in_turn setup m.count (fuel - (rig_step setup c).cost) (rig_step setup c).rig h.0 fuel' d h.4))
