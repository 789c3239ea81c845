-- Live tasks by number, after a start, a poll and an end.
use Rattle.std.specs.Prelude.{◌==◌, ◌||◌, is_some, slice_set, slice_index_or}
use Rattle.std.proofs.Common.{◌≡◌, ℕ, zero, suc, ◌<◌, Bool, true, false, List, [], ◌∷◌, ◌++◌, length, refl, ap, sym, ◌∙◌, arith, eq-eqb, eqb-true}
use Rattle.py_value.specs.declared.trigger.TaskNo.{TaskNo}
use Rattle.rig_model.specs.Task.Frame.{Task}
use Rattle.run_state.specs.LiveTasks.Tasks as flows
use Rattle.rig_model.specs.Run.Effect.{is_numbered}
use Rattle.rig_model.specs.Run.Step.{task_at, stored}
use Rattle.run_state.specs.TestTasks.Tasks.{without}

-- ---- the same words of two crates

pub at_same : (n : TaskNo) (ts : List Task) → flows.task_at n ts ≡ task_at n ts
at_same n [] = refl
at_same n (t ∷ ts) = decided (is_numbered n t) refl (at_same n ts)
  where
    decided : (b : Bool) → is_numbered n t ≡ b → flows.task_at n ts ≡ task_at n ts → flows.task_at n (t ∷ ts) ≡ task_at n (t ∷ ts)
    decided true e more = rw e refl
    decided false e more = rw e more

pub stored_same : (n : TaskNo) (r : Task) (ts : List Task) → flows.stored n r ts ≡ stored n r ts
stored_same n r [] = refl
stored_same n r (t ∷ ts) = decided (is_numbered n t) refl (stored_same n r ts)
  where
    decided : (b : Bool) → is_numbered n t ≡ b → flows.stored n r ts ≡ stored n r ts → flows.stored n r (t ∷ ts) ≡ stored n r (t ∷ ts)
    decided true e more = rw e refl
    decided false e more = rw e (ap (λ (us : List Task). t ∷ us) more)

-- ---- who lives

-- one task more
pub lives_added : (n : TaskNo) (tasks : List Task) (t : Task) → is_some (task_at n (tasks ++ t ∷ [])) ≡ (is_some (task_at n tasks) || is_numbered n t)
lives_added n [] t = one (is_numbered n t) refl
  where
    one : (b : Bool) → is_numbered n t ≡ b → is_some (task_at n (t ∷ [])) ≡ is_numbered n t
    one true e = rw e refl
    one false e = rw e refl
lives_added n (u ∷ us) t = decided (is_numbered n u) refl (lives_added n us t)
  where
    decided : (b : Bool) → is_numbered n u ≡ b → is_some (task_at n (us ++ t ∷ [])) ≡ (is_some (task_at n us) || is_numbered n t)
        → is_some (task_at n ((u ∷ us) ++ t ∷ [])) ≡ (is_some (task_at n (u ∷ us)) || is_numbered n t)
    decided true e more = rw e refl
    decided false e more = rw e more

-- what is left of a task is in its place
pub lives_stored : (n number : TaskNo) (r : Task) (tasks : List Task) → r.number ≡ number → is_some (task_at n (stored number r tasks)) ≡ is_some (task_at n tasks)
lives_stored n number r [] own = refl
lives_stored n number r (u ∷ us) own = decided (is_numbered number u) (is_numbered n u) refl refl (lives_stored n number r us own)
  where
    same : is_numbered number u ≡ true → is_numbered n r ≡ is_numbered n u
    same e = ap (λ (k : TaskNo). k.0 == n.0) own ∙ ap (λ (k : ℕ). k == n.0) (sym (eqb-true u.number.0 number.0 e))

    decided : (b o : Bool) → is_numbered number u ≡ b → is_numbered n u ≡ o → is_some (task_at n (stored number r us)) ≡ is_some (task_at n us)
        → is_some (task_at n (stored number r (u ∷ us))) ≡ is_some (task_at n (u ∷ us))
    decided true true e q more = let k : is_numbered n r ≡ true = same e ∙ q in rw e (rw (k, q) refl)
    decided true false e q more = let k : is_numbered n r ≡ false = same e ∙ q in rw e (rw (k, q) refl)
    decided false true e q more = rw e (rw q refl)
    decided false false e q more = rw e (rw q more)

-- without another task
pub lives_without : (n m : TaskNo) (tasks : List Task) → (n.0 == m.0) ≡ false → is_some (task_at n (without m tasks)) ≡ is_some (task_at n tasks)
lives_without n m [] h = refl
lives_without n m (u ∷ us) h = decided (is_numbered m u) (is_numbered n u) refl refl (lives_without n m us h)
  where
    apart : is_numbered m u ≡ true → is_numbered n u ≡ true → ⊥
    apart e q = let k : (n.0 == m.0) ≡ true = eq-eqb n.0 m.0 (sym (eqb-true u.number.0 n.0 q) ∙ eqb-true u.number.0 m.0 e) in let z : true ≡ false = sym k ∙ h in cc

    decided : (b o : Bool) → is_numbered m u ≡ b → is_numbered n u ≡ o → is_some (task_at n (without m us)) ≡ is_some (task_at n us)
        → is_some (task_at n (without m (u ∷ us))) ≡ is_some (task_at n (u ∷ us))
    decided true true e q more = absurd (apart e q)
    decided true false e q more = rw e (rw q more)
    decided false true e q more = rw e (rw q refl)
    decided false false e q more = rw e (rw q more)

-- the task itself is gone
pub gone_without : (n m : TaskNo) (tasks : List Task) → n.0 ≡ m.0 → is_some (task_at n (without m tasks)) ≡ false
gone_without n m [] h = refl
gone_without n m (u ∷ us) h = decided (is_numbered m u) refl (gone_without n m us h)
  where
    other : is_numbered m u ≡ false → is_numbered n u ≡ false
    other e = ap (λ (k : ℕ). u.number.0 == k) h ∙ e

    decided : (b : Bool) → is_numbered m u ≡ b → is_some (task_at n (without m us)) ≡ false → is_some (task_at n (without m (u ∷ us))) ≡ false
    decided true e more = rw e more
    decided false e more = let q : is_numbered n u ≡ false = other e in rw e (rw q more)

-- ---- entries of a list, by number

module _ {A : Type 0} where
  pub read_more : (xs : List A) (n : ℕ) (x d : A) → n < length xs → slice_index_or (xs ++ x ∷ []) n d ≡ slice_index_or xs n d
  read_more [] n x d h = absurd (omega arith)
  read_more (y ∷ ys) zero x d h = refl
  read_more (y ∷ ys) (suc n) x d h = read_more ys n x d (omega arith)

  pub read_last : (xs : List A) (n : ℕ) (x d : A) → n ≡ length xs → slice_index_or (xs ++ x ∷ []) n d ≡ x
  read_last [] zero x d h = refl
  read_last [] (suc n) x d h = absurd (omega arith)
  read_last (y ∷ ys) zero x d h = absurd (omega arith)
  read_last (y ∷ ys) (suc n) x d h = read_last ys n x d (omega arith)

  pub read_set : (xs : List A) (n : ℕ) (x d : A) → n < length xs → slice_index_or (slice_set xs n x) n d ≡ x
  read_set [] n x d h = absurd (omega arith)
  read_set (y ∷ ys) zero x d h = refl
  read_set (y ∷ ys) (suc n) x d h = read_set ys n x d (omega arith)

  pub read_other : (xs : List A) (n k : ℕ) (x d : A) → (k ≡ n → ⊥) → slice_index_or (slice_set xs n x) k d ≡ slice_index_or xs k d
  read_other [] n k x d h = refl
  read_other (y ∷ ys) zero zero x d h = absurd (h refl)
  read_other (y ∷ ys) zero (suc k) x d h = refl
  read_other (y ∷ ys) (suc n) zero x d h = refl
  read_other (y ∷ ys) (suc n) (suc k) x d h = read_other ys n k x d (λ e. h (ap suc e))

  pub set_long : (xs : List A) (n : ℕ) (x : A) → length (slice_set xs n x) ≡ length xs
  set_long [] n x = refl
  set_long (y ∷ ys) zero x = refl
  set_long (y ∷ ys) (suc n) x = ap suc (set_long ys n x)
