-- Flows at the numbers of their tasks.
use Rattle.std.proofs.Common.{◌≡◌, ℕ, zero, suc, ◌+◌, ◌<◌, ◌≤◌, true, false, List, [], ◌∷◌, ◌++◌, length, set, slice_get, Option, None, Some, refl, ap, sym, subst, arith}
use Rattle.std.specs.Option.{option_map}
use Rattle.std.specs.Prelude.{slice_index_or}
use Rattle.std.proofs.lemmas.Bool.{eq-eqb, ne_eqb}
use Rattle.py_value.specs.declared.trigger.TaskNo.{TaskNo}
use Rattle.rig_model.specs.Task.Frame.{Task}
use Rattle.run_state.specs.LiveTasks.Placed.{ArePlaced}
use Rattle.run_state.specs.LiveTasks.Tasks.{tasks_of, is_numbered, task_at, stored, without}

-- ---- numbers of places that come before and after

other : (number : TaskNo) (t : Task) (n : ℕ) → t.number.0 ≡ n → number.0 < n → is_numbered number t ≡ false
other number t n e h = ne_eqb t.number.0 number.0 (λ q. absurd (omega arith))

earlier : (number : TaskNo) (t : Task) (n : ℕ) → t.number.0 ≡ n → n < number.0 → is_numbered number t ≡ false
earlier number t n e h = ne_eqb t.number.0 number.0 (λ q. absurd (omega arith))

module _ {F : Type 0} (task : F → Task) where
  no_task : (n : ℕ) (ps : List (Option F)) (number : TaskNo) → ArePlaced task n ps → number.0 < n → task_at number (tasks_of task ps) ≡ None
  no_task n [] number h b = refl
  no_task n (None ∷ ps) number h b = no_task (suc n) ps number h (omega arith)
  no_task n (Some l ∷ ps) number h b = rw (other number (task l) n h.0 b) (no_task (suc n) ps number h.1 (omega arith))

  all_stay : (n : ℕ) (ps : List (Option F)) (number : TaskNo) → ArePlaced task n ps → number.0 < n → without number (tasks_of task ps) ≡ tasks_of task ps
  all_stay n [] number h b = refl
  all_stay n (None ∷ ps) number h b = all_stay (suc n) ps number h (omega arith)
  all_stay n (Some l ∷ ps) number h b =
      rw (other number (task l) n h.0 b) (ap (λ (ts : List Task). task l ∷ ts) (all_stay (suc n) ps number h.1 (omega arith)))

  -- ---- the place of a live task

  pub record FoundAt (ps : List (Option F)) (i : ℕ) (t : Task) : Type 0 where
    pub l : F
    pub at : slice_get ps i ≡ Some (Some l)
    pub is : task l ≡ t

  further : (p : Option F) (ps : List (Option F)) (i : ℕ) (t : Task) → FoundAt ps i t → FoundAt (p ∷ ps) (suc i) t
  further p ps i t f = record { l = f.l; at = f.at; is = f.is }

  pub place_of : (n i : ℕ) (ps : List (Option F)) (number : TaskNo) (t : Task) → number.0 ≡ n + i → ArePlaced task n ps
      → task_at number (tasks_of task ps) ≡ Some t → FoundAt ps i t
  place_of n i [] number t e h f = absurd cc
  place_of n zero (None ∷ ps) number t e h f =
      let z : task_at number (tasks_of task ps) ≡ None = no_task (suc n) ps number h (omega arith) in absurd cc
  place_of n (suc i) (None ∷ ps) number t e h f = further None ps i t (place_of (suc n) i ps number t (omega arith) h f)
  place_of n zero (Some l ∷ ps) number t e h f =
      let q : is_numbered number (task l) ≡ true = eq-eqb (task l).number.0 number.0 (omega (arith, h.0)) in
      let g : Some (task l) ≡ Some t = rw q at f in
      record { l = l; at = refl; is = cc }
  place_of n (suc i) (Some l ∷ ps) number t e h f =
      let q : is_numbered number (task l) ≡ false = earlier number (task l) n h.0 (omega arith) in
      further (Some l) ps i t (place_of (suc n) i ps number t (omega arith) h.1 (rw q at f))

  pub record HasPlace (n i : ℕ) (ps : List (Option F)) (number : TaskNo) (l : F) : Type 0 where
    pub own : (task l).number.0 ≡ number.0
    pub found : task_at number (tasks_of task ps) ≡ Some (task l)
    pub stores : (r : F) → tasks_of task (set ps i (Some r)) ≡ stored number (task r) (tasks_of task ps)
    pub placed : (r : F) → (task r).number.0 ≡ number.0 → ArePlaced task n (set ps i (Some r))
    pub as_many : (r : F) → length (tasks_of task (set ps i (Some r))) ≡ length (tasks_of task ps)
    pub drops : tasks_of task (set ps i None) ≡ without number (tasks_of task ps)
    pub emptied : ArePlaced task n (set ps i None)
    pub one_less : length (tasks_of task (set ps i None)) + 1 ≡ length (tasks_of task ps)

  at_first : (n : ℕ) (m : F) (ps : List (Option F)) (number : TaskNo) → number.0 ≡ n → ArePlaced task n (Some m ∷ ps) → HasPlace n zero (Some m ∷ ps) number m
  at_first n m ps number e h =
      let q : is_numbered number (task m) ≡ true = eq-eqb (task m).number.0 number.0 (omega (arith, h.0)) in
      record {
        own = omega (arith, h.0);
        found = rw q refl;
        stores = λ r. rw q refl;
        placed = λ r a. (omega arith, h.1);
        as_many = λ r. refl;
        drops = rw q (sym (all_stay (suc n) ps number h.1 (omega arith)));
        emptied = h.1;
        one_less = omega arith;
      }

  pub place_at : (n i : ℕ) (ps : List (Option F)) (number : TaskNo) (l : F) → number.0 ≡ n + i → ArePlaced task n ps → slice_get ps i ≡ Some (Some l)
      → HasPlace n i ps number l
  place_at n i [] number l e h f = absurd cc
  place_at n zero (None ∷ ps) number l e h f = absurd cc
  place_at n zero (Some m ∷ ps) number l e h f =
      let q : m ≡ l = cc in
      subst (λ (x : F). HasPlace n zero (Some m ∷ ps) number x) q (at_first n m ps number (omega arith) h)
  place_at n (suc i) (None ∷ ps) number l e h f =
      let p : HasPlace (suc n) i ps number l = place_at (suc n) i ps number l (omega arith) h f in
      record {
        own = p.own;
        found = p.found;
        stores = p.stores;
        placed = p.placed;
        as_many = p.as_many;
        drops = p.drops;
        emptied = p.emptied;
        one_less = p.one_less;
      }
  place_at n (suc i) (Some m ∷ ps) number l e h f =
      let p : HasPlace (suc n) i ps number l = place_at (suc n) i ps number l (omega arith) h.1 f in
      let q : is_numbered number (task m) ≡ false = earlier number (task m) n h.0 (omega arith) in
      let more : List Task → List Task = λ ts. task m ∷ ts in
      record {
        own = p.own;
        found = rw q p.found;
        stores = λ r. rw q (ap more (p.stores r));
        placed = λ r a. (h.0, p.placed r a);
        as_many = λ r. ap suc (p.as_many r);
        drops = rw q (ap more p.drops);
        emptied = (h.0, p.emptied);
        one_less = omega (arith, p.one_less);
      }

  -- the task of a number, and the flow at it
  pub task_of : (n i : ℕ) (ps : List (Option F)) (number : TaskNo) → number.0 ≡ n + i → ArePlaced task n ps
      → task_at number (tasks_of task ps) ≡ option_map task (slice_index_or ps i None)
  task_of n i [] number e h = refl
  task_of n zero (None ∷ ps) number e h = no_task (suc n) ps number h (omega arith)
  task_of n (suc i) (None ∷ ps) number e h = task_of (suc n) i ps number (omega arith) h
  task_of n zero (Some l ∷ ps) number e h =
      let q : is_numbered number (task l) ≡ true = eq-eqb (task l).number.0 number.0 (omega (arith, h.0)) in rw q refl
  task_of n (suc i) (Some l ∷ ps) number e h =
      let q : is_numbered number (task l) ≡ false = earlier number (task l) n h.0 (omega arith) in
      rw q (task_of (suc n) i ps number (omega arith) h.1)

  -- ---- a task more

  pub tasks_more : (ps : List (Option F)) (l : F) → tasks_of task (ps ++ Some l ∷ []) ≡ tasks_of task ps ++ task l ∷ []
  tasks_more [] l = refl
  tasks_more (None ∷ ps) l = tasks_more ps l
  tasks_more (Some m ∷ ps) l = ap (λ (ts : List Task). task m ∷ ts) (tasks_more ps l)

  pub placed_more : (n : ℕ) (ps : List (Option F)) (l : F) → ArePlaced task n ps → (task l).number.0 ≡ n + length ps → ArePlaced task n (ps ++ Some l ∷ [])
  placed_more n [] l h e = (omega arith, tt)
  placed_more n (None ∷ ps) l h e = placed_more (suc n) ps l h (omega arith)
  placed_more n (Some m ∷ ps) l h e = (h.0, placed_more (suc n) ps l h.1 (omega arith))

  pub few : (ps : List (Option F)) → length (tasks_of task ps) ≤ length ps
  few [] = omega arith
  few (None ∷ ps) = omega (arith, few ps)
  few (Some l ∷ ps) = omega (arith, few ps)
