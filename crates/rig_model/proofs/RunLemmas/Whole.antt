-- A run of a budget is one.
use Rattle.std.proofs.Common.{◌≡◌, ℕ, zero, suc, Bool, true, false, List, refl, ap, sym, ◌∙◌}
use Rattle.rig_model.specs.Run.Rig.{Setup}
use Rattle.test_meaning.specs.Body.BodyTrees.{Case}
use Rattle.rig_model.specs.Run.Run.{Run, step, goes, steps, opening, IsRun}

module _ (setup : Setup) (budget : ℕ) where
  -- a step that fits is done
  pub steps_one : (n : ℕ) (c : Run) → goes setup budget c ≡ true → steps setup budget (suc n) c ≡ steps setup budget n (step setup c)
  unfolding steps
  steps_one n c h = rw h refl

  -- where a run stops it stays
  pub steps_none : (n : ℕ) (c : Run) → goes setup budget c ≡ false → steps setup budget n c ≡ c
  unfolding steps
  steps_none zero c h = refl
  steps_none (suc n) c h = rw h refl

  -- two stops are one
  stops_same : (j k : ℕ) (c : Run) → goes setup budget (steps setup budget j c) ≡ false → goes setup budget (steps setup budget k c) ≡ false
      → steps setup budget j c ≡ steps setup budget k c
  unfolding steps
  stops_same zero k c p q = sym (steps_none k c p)
  stops_same (suc j) zero c p q = steps_none (suc j) c q
  stops_same (suc j) (suc k) c p q = decided (goes setup budget c) refl (λ a b. stops_same j k (step setup c) a b)
    where
      decided : (b : Bool) → goes setup budget c ≡ b
          → (goes setup budget (steps setup budget j (step setup c)) ≡ false → goes setup budget (steps setup budget k (step setup c)) ≡ false → steps setup budget j (step setup c) ≡ steps setup budget k (step setup c))
          → steps setup budget (suc j) c ≡ steps setup budget (suc k) c
      decided true h more = rw h (more (rw h at p) (rw h at q))
      decided false h more = rw h refl

-- a run of a budget stops in one place
pub run_unique : (setup : Setup) (seed : ℕ) (cases : List Case) (budget : ℕ) (c d : Run) → IsRun setup seed cases budget c → IsRun setup seed cases budget d → c ≡ d
run_unique setup seed cases budget c d r s =
    r.reached ∙ stops_same setup budget r.count s.count (opening setup seed cases)
    (ap (goes setup budget) (sym r.reached) ∙ r.stopped) (ap (goes setup budget) (sym s.reached) ∙ s.stopped) ∙ sym s.reached
