-- What the leaves of a tree are on that has begun hasn't come, and a cause that isn't a key leaves no leaf that it reaches.
use Rattle.std.proofs.Common.{◌≡◌, ℕ, zero, suc, Bool, true, false, List, [], ◌∷◌, ◌++◌, Option, None, Some, refl, ap, sym, ◌∙◌, subst, rules, if◌then◌else◌}
use Rattle.std.specs.Prelude.{◌==◌, ◌||◌, slice_index_or, slice_set}
use Rattle.gpi.specs.Keys.{same_key}
use Rattle.gpi.specs.declared.types.Key.{Key}
use Rattle.gpi.specs.declared.types.Key.TheVariants as key
use Rattle.py_value.specs.Trigger.{Trig}
use Rattle.py_value.specs.declared.trigger.EventNo.{EventNo}
use Rattle.py_value.specs.declared.trigger.LockNo.{LockNo}
use Rattle.py_value.specs.declared.trigger.TaskNo.{TaskNo}
use Rattle.await_tree.specs.Begin.{Facts, AllBegun, all_begun, begin, begin_all, begin_until, begun, ended, is_held, is_set, join_begun, leaf_begun, then_begun, with_held}
use Rattle.await_tree.specs.Fire.{edge_passed, fire, fire_all, is_among, is_same, reach_of, reached}
use Rattle.await_tree.specs.Laws.{IsWithin}
use Rattle.await_tree.specs.Tree.{Tree, Trees, Over, Leaf, Cycles, First, Combine, Limit, NoTree, Then, leaves, all_leaves, is_over, first_over, first_faulted, are_over, first_by, combine_by, limit_by}
use Rattle.await_tree.specs.declared.cause.Awaited.{Awaited}
use Rattle.await_tree.specs.declared.cause.Awaited.TheVariants as awaited
use Rattle.await_tree.specs.declared.cause.Cause.{Cause}
use Rattle.await_tree.specs.declared.cause.Cause.TheVariants as cause
use Rattle.await_tree.specs.declared.finish.Finish.TheVariants as finish
use Rattle.await_tree.proofs.AmongLaws.{among_more}
use Rattle.await_tree.proofs.Few.{IsBare, fault_bare, first_bare}
use Rattle.await_tree.specs.WaitList.Waiting.{IsNoKey}
use Rattle.run_laws.specs.Places.Unmet.{IsUnmet, AreUnmet}

same_number : (m n : ℕ) → (m == n) ≡ true → m ≡ n
same_number m n h = search rules

itself : (n : ℕ) → (n == n) ≡ true
itself n = search rules

key_itself : (k : Key) → same_key k k ≡ true
key_itself (key.At time) = itself time
key_itself (key.Rise sig) = itself sig.0
key_itself (key.Fall sig) = itself sig.0
key_itself (key.Change sig) = itself sig.0
key_itself key.ReadWrite = refl
key_itself key.ReadOnly = refl
key_itself key.NextStep = refl

same_itself : (a : Awaited) → is_same a a ≡ true
same_itself (awaited.Key k) = key_itself k
same_itself (awaited.Event event) = itself event.0
same_itself (awaited.Lock lock) = itself lock.0
same_itself (awaited.Join task) = itself task.0

pub or_first : (a b : Bool) → (a || b) ≡ false → a ≡ false
or_first false b h = refl
or_first true b h = cc

pub or_second : (a b : Bool) → (a || b) ≡ false → b ≡ false
or_second false b h = h
or_second true b h = absurd (cc)

or_true : (a b : Bool) → a ≡ true → (a || b) ≡ true
or_true true b h = refl
or_true false b h = cc

or_later : (a b : Bool) → b ≡ true → (a || b) ≡ true
or_later true b h = refl
or_later false b h = h

-- ---- lists of what is awaited

module _ (f : Facts) where
  -- what waits for the same is met by the same
  same_unmet : (a own : Awaited) → is_same a own ≡ true → IsUnmet f own → IsUnmet f a
  same_unmet (awaited.Key k) (awaited.Key own) e h = tt
  same_unmet (awaited.Event x) (awaited.Event own) e h = subst (λ (n : ℕ). slice_index_or f.events n false ≡ false) (sym (same_number x.0 own.0 e)) h
  same_unmet (awaited.Lock x) (awaited.Lock own) e h = subst (λ (n : ℕ). slice_index_or f.locks n false ≡ true) (sym (same_number x.0 own.0 e)) h
  same_unmet (awaited.Join x) (awaited.Join own) e h = subst (λ (n : ℕ). slice_index_or f.tasks n None ≡ None) (sym (same_number x.0 own.0 e)) h
  same_unmet a own e h = absurd (cc)

  by_same : (b : Bool) (a own : Awaited) (more : List Awaited) → is_same a own ≡ b → IsUnmet f own → (is_among a more ≡ true → IsUnmet f a)
      → (is_same a own || is_among a more) ≡ true → IsUnmet f a
  by_same true a own more e h k m = same_unmet a own e h
  by_same false a own more e h k m = k (rw e at m)

  pub unmet_at : (a : Awaited) (xs : List Awaited) → AreUnmet f xs → is_among a xs ≡ true → IsUnmet f a
  unmet_at a [] h m = absurd (cc)
  unmet_at a (x ∷ xs) h m = by_same (is_same a x) a x xs refl h.0 (λ k. unmet_at a xs h.1 k) m

  -- what is among them hasn't come either
  pub unmet_within : (xs ys : List Awaited) → IsWithin xs ys → AreUnmet f ys → AreUnmet f xs
  unmet_within [] ys w h = tt
  unmet_within (x ∷ xs) ys w h = (
    unmet_at x ys h (w x (or_true (is_same x x) (is_among x xs) (same_itself x))),
    unmet_within xs ys (λ a e. w a (or_later (is_same a x) (is_among a xs) e)) h,
  )

  pub unmet_more : (xs ys : List Awaited) → AreUnmet f xs → AreUnmet f ys → AreUnmet f (xs ++ ys)
  unmet_more [] ys h k = k
  unmet_more (x ∷ xs) ys h k = (h.0, unmet_more xs ys h.1 k)

module _ (f g : Facts) where
  pub unmet_as : (xs : List Awaited) → ((a : Awaited) → IsUnmet f a → IsUnmet g a) → AreUnmet f xs → AreUnmet g xs
  unmet_as [] h k = tt
  unmet_as (x ∷ xs) h k = (h x k.0, unmet_as xs h k.1)

  -- only what one thing is on has come, and none of these is on it
  pub unmet_apart : (r : Awaited) (xs : List Awaited) → ((a : Awaited) → is_same r a ≡ false → IsUnmet f a → IsUnmet g a) → is_among r xs ≡ false → AreUnmet f xs → AreUnmet g xs
  unmet_apart r [] h m k = tt
  unmet_apart r (x ∷ xs) h m k =
      (h x (or_first (is_same r x) (is_among r xs) m) k.0, unmet_apart r xs h (or_second (is_same r x) (is_among r xs) m) k.1)

-- ---- a tree that begins takes locks alone

pub record TakesLocks (f g : Facts) : Type 0 where
  pub events : g.events ≡ f.events
  pub tasks : g.tasks ≡ f.tasks
  pub locks : (n : ℕ) → slice_index_or f.locks n false ≡ true → slice_index_or g.locks n false ≡ true

takes_none : (f : Facts) → TakesLocks f f
takes_none f = record { events = refl; tasks = refl; locks = λ n h. h }

takes_then : (f g h : Facts) → TakesLocks f g → TakesLocks g h → TakesLocks f h
takes_then f g h x y = record { events = y.events ∙ x.events; tasks = y.tasks ∙ x.tasks; locks = λ n e. y.locks n (x.locks n e) }

set_held : (bs : List Bool) (m n : ℕ) → slice_index_or bs n false ≡ true → slice_index_or (slice_set bs m true) n false ≡ true
set_held [] m n h = h
set_held (b ∷ bs) zero zero h = refl
set_held (b ∷ bs) zero (suc n) h = h
set_held (b ∷ bs) (suc m) zero h = h
set_held (b ∷ bs) (suc m) (suc n) h = set_held bs m n h

takes_one : (l : LockNo) (f : Facts) → TakesLocks f (with_held l f)
takes_one l f = record { events = refl; tasks = refl; locks = λ n h. set_held f.locks l.0 n h }

later_unmet : (f g : Facts) → TakesLocks f g → (a : Awaited) → IsUnmet f a → IsUnmet g a
later_unmet f g t (awaited.Key k) h = tt
later_unmet f g t (awaited.Event event) h = ap (λ (bs : List Bool). slice_index_or bs event.0 false) t.events ∙ h
later_unmet f g t (awaited.Lock lock) h = t.locks lock.0 h
later_unmet f g t (awaited.Join task) h = ap (λ (os : List (Option Bool)). slice_index_or os task.0 None) t.tasks ∙ h

pub taken_unmet : (f g : Facts) (xs : List Awaited) → TakesLocks f g → AreUnmet f xs → AreUnmet g xs
taken_unmet f g xs t h = unmet_as f g xs (later_unmet f g t) h

lock_takes : (b : Bool) (l : LockNo) (trig : Trig) (f : Facts)
    → TakesLocks f (if b then begun (Leaf (awaited.Lock l) trig) f else begun (Over (finish.Reached trig)) (with_held l f)).facts
lock_takes true l trig f = takes_none f
lock_takes false l trig f = takes_one l f

leaf_takes : (on : Awaited) (trig : Trig) (f : Facts) → TakesLocks f (leaf_begun on trig f).facts
leaf_takes (awaited.Key k) trig f = takes_none f
leaf_takes (awaited.Event event) trig f = takes_none f
leaf_takes (awaited.Lock lock) trig f = lock_takes (is_held lock f) lock trig f
leaf_takes (awaited.Join task) trig f = takes_none f

until_takes : (b : Bool) (t : Tree) (ts : Trees) (f g : Facts) (more : AllBegun) → TakesLocks f g → TakesLocks f more.facts
    → TakesLocks f (if b then all_begun (Then t ts) g else then_begun t more).facts
until_takes true t ts f g more h k = h
until_takes false t ts f g more h k = k

mutual
  pub begin_takes : (t : Tree) (f : Facts) → TakesLocks f (begin t f).facts
  begin_takes (Over x) f = takes_none f
  begin_takes (Leaf on trig) f = leaf_takes on trig f
  begin_takes (Cycles k left trig) f = takes_none f
  begin_takes (First ts) f = begins_until_take ts f
  begin_takes (Combine trig ts) f = begins_take ts f
  begin_takes (Limit due t) f = begin_takes t f

  begins_until_take : (ts : Trees) (f : Facts) → TakesLocks f (begin_until ts f).facts
  begins_until_take NoTree f = takes_none f
  begins_until_take (Then t ts) f =
      let g : Facts = (begin t f).facts in
      until_takes (is_over (begin t f).tree) (begin t f).tree ts f g (begin_until ts g) (begin_takes t f)
      (takes_then f g (begin_until ts g).facts (begin_takes t f) (begins_until_take ts g))

  begins_take : (ts : Trees) (f : Facts) → TakesLocks f (begin_all ts f).facts
  begins_take NoTree f = takes_none f
  begins_take (Then t ts) f =
      let g : Facts = (begin t f).facts in takes_then f g (begin_all ts g).facts (begin_takes t f) (begins_take ts g)

-- ---- a tree that has begun

bare_unmet : (f : Facts) (xs : List Awaited) → xs ≡ [] → AreUnmet f xs
bare_unmet f xs e = rw e tt

first_unmet : (f : Facts) (o : Option Tree) (ts : Trees) → first_over ts ≡ o → IsBare o → (first_over ts ≡ None → AreUnmet f (all_leaves ts)) → AreUnmet f (leaves (first_by o ts))
first_unmet f (Some t) ts e b h = bare_unmet f (leaves t) b
first_unmet f None ts e b h = h e

combine_unmet : (f : Facts) (o : Option Tree) (all : Bool) (trig : Trig) (ts : Trees) → IsBare o → AreUnmet f (all_leaves ts) → AreUnmet f (leaves (combine_by o all trig ts))
combine_unmet f (Some t) all trig ts b h = bare_unmet f (leaves t) b
combine_unmet f None true trig ts b h = tt
combine_unmet f None false trig ts b h = h

limit_unmet : (f : Facts) (over late : Bool) (due : ℕ) (t : Tree) → AreUnmet f (leaves t) → AreUnmet f (leaves (limit_by over late due t))
limit_unmet f true late due t h = h
limit_unmet f false true due t h = tt
limit_unmet f false false due t h = unmet_more f (leaves t) (awaited.Key (key.At due) ∷ []) h (tt, tt)

event_unmet : (b : Bool) (event : EventNo) (trig : Trig) (f : Facts) → is_set event f ≡ b
    → AreUnmet f (leaves (if b then Over (finish.Reached trig) else Leaf (awaited.Event event) trig))
event_unmet true event trig f e = tt
event_unmet false event trig f e = (e, tt)

lock_unmet : (b : Bool) (l : LockNo) (trig : Trig) (f : Facts) → is_held l f ≡ b
    → let r = (if b then begun (Leaf (awaited.Lock l) trig) f else begun (Over (finish.Reached trig)) (with_held l f)) in AreUnmet r.facts (leaves r.tree)
lock_unmet true l trig f e = (e, tt)
lock_unmet false l trig f e = tt

join_unmet : (o : Option Bool) (task : TaskNo) (trig : Trig) (f : Facts) → ended task f ≡ o → AreUnmet f (leaves (join_begun o task trig))
join_unmet None task trig f e = (e, tt)
join_unmet (Some failed) task trig f e = tt

leaf_unmet : (on : Awaited) (trig : Trig) (f : Facts) → AreUnmet (leaf_begun on trig f).facts (leaves (leaf_begun on trig f).tree)
leaf_unmet (awaited.Key k) trig f = (tt, tt)
leaf_unmet (awaited.Event event) trig f = event_unmet (is_set event f) event trig f refl
leaf_unmet (awaited.Lock lock) trig f = lock_unmet (is_held lock f) lock trig f refl
leaf_unmet (awaited.Join task) trig f = join_unmet (ended task f) task trig f refl

-- up to the first part that is done all have begun
until_unmet : (b : Bool) (t : Tree) (ts : Trees) (g : Facts) (more : AllBegun) → is_over t ≡ b → AreUnmet more.facts (leaves t)
    → (first_over more.trees ≡ None → AreUnmet more.facts (all_leaves more.trees))
    → let r = (if b then all_begun (Then t ts) g else then_begun t more) in first_over r.trees ≡ None → AreUnmet r.facts (all_leaves r.trees)
until_unmet true t ts g more e h k n = absurd (let z : Some t ≡ None = rw e at n in cc)
until_unmet false t ts g more e h k n = unmet_more more.facts (leaves t) (all_leaves more.trees) h (k (rw e at n))

mutual
  pub begin_unmet : (t : Tree) (f : Facts) → AreUnmet (begin t f).facts (leaves (begin t f).tree)
  begin_unmet (Over x) f = tt
  begin_unmet (Leaf on trig) f = leaf_unmet on trig f
  begin_unmet (Cycles k left trig) f = (tt, tt)
  begin_unmet (First ts) f =
      let b : AllBegun = begin_until ts f in first_unmet b.facts (first_over b.trees) b.trees refl (first_bare b.trees) (begins_until_unmet ts f)
  begin_unmet (Combine trig ts) f =
      let b : AllBegun = begin_all ts f in combine_unmet b.facts (first_faulted b.trees) (are_over b.trees) trig b.trees (fault_bare b.trees) (begins_unmet ts f)
  begin_unmet (Limit due t) f = limit_unmet (begin t f).facts (is_over (begin t f).tree) false due (begin t f).tree (begin_unmet t f)

  begins_until_unmet : (ts : Trees) (f : Facts) → first_over (begin_until ts f).trees ≡ None → AreUnmet (begin_until ts f).facts (all_leaves (begin_until ts f).trees)
  begins_until_unmet NoTree f n = tt
  begins_until_unmet (Then t ts) f n =
      let g : Facts = (begin t f).facts in
      let u : Tree = (begin t f).tree in
      until_unmet (is_over u) u ts g (begin_until ts g) refl (taken_unmet g (begin_until ts g).facts (leaves u) (begins_until_take ts g) (begin_unmet t f))
      (begins_until_unmet ts g) n

  begins_unmet : (ts : Trees) (f : Facts) → AreUnmet (begin_all ts f).facts (all_leaves (begin_all ts f).trees)
  begins_unmet NoTree f = tt
  begins_unmet (Then t ts) f =
      let g : Facts = (begin t f).facts in
      let u : Tree = (begin t f).tree in
      unmet_more (begin_all ts g).facts (leaves u) (all_leaves (begin_all ts g).trees)
      (taken_unmet g (begin_all ts g).facts (leaves u) (begins_take ts g) (begin_unmet t f)) (begins_unmet ts g)

-- ---- an event that is set, or a task that has ended, leaves no leaf on it

abbrev IsFree : Awaited → List Awaited → Type 0
IsFree r xs = is_among r xs ≡ false

free_more : (r : Awaited) (xs ys : List Awaited) → IsFree r xs → IsFree r ys → IsFree r (xs ++ ys)
free_more r xs ys h k = sym (among_more r xs ys) ∙ ap (λ (b : Bool). b || is_among r ys) h ∙ k

bare_free : (r : Awaited) (xs : List Awaited) → xs ≡ [] → IsFree r xs
bare_free r xs e = rw e refl

or_none : (b : Bool) → b ≡ false → (b || false) ≡ false
or_none true h = h
or_none false h = refl

module _ (c : Cause) where
  no_key : IsNoKey c → (k : Key) → is_same (reach_of c) (awaited.Key k) ≡ false
  no_key h k = by_cause c h
    where
      by_cause : (c : Cause) → IsNoKey c → is_same (reach_of c) (awaited.Key k) ≡ false
      by_cause (cause.Key own) h = absurd h
      by_cause (cause.Event event) h = refl
      by_cause (cause.Ended task failed) h = refl

  leaf_free : (b : Bool) (on : Awaited) (trig : Trig) → is_same (reach_of c) on ≡ b → IsFree (reach_of c) (leaves (if b then Over (reached c trig) else Leaf on trig))
  leaf_free true on trig e = refl
  leaf_free false on trig e = or_none (is_same (reach_of c) on) e

  cycles_free : (b : Bool) (k : Key) (left : ℕ) (trig : Trig) → is_same (reach_of c) (awaited.Key k) ≡ b → is_same (reach_of c) (awaited.Key k) ≡ false
      → IsFree (reach_of c) (leaves (if b then edge_passed left k trig else Cycles k left trig))
  cycles_free true k left trig e n = absurd (let z : true ≡ false = sym e ∙ n in cc)
  cycles_free false k left trig e n = or_none (is_same (reach_of c) (awaited.Key k)) n

  first_free : (o : Option Tree) (ts : Trees) → IsBare o → IsFree (reach_of c) (all_leaves ts) → IsFree (reach_of c) (leaves (first_by o ts))
  first_free (Some t) ts b h = bare_free (reach_of c) (leaves t) b
  first_free None ts b h = h

  combine_free : (o : Option Tree) (all : Bool) (trig : Trig) (ts : Trees) → IsBare o → IsFree (reach_of c) (all_leaves ts) → IsFree (reach_of c) (leaves (combine_by o all trig ts))
  combine_free (Some t) all trig ts b h = bare_free (reach_of c) (leaves t) b
  combine_free None true trig ts b h = refl
  combine_free None false trig ts b h = h

  limit_free : (over late : Bool) (due : ℕ) (t : Tree) → is_same (reach_of c) (awaited.Key (key.At due)) ≡ false → IsFree (reach_of c) (leaves t)
      → IsFree (reach_of c) (leaves (limit_by over late due t))
  limit_free true late due t n h = h
  limit_free false true due t n h = refl
  limit_free false false due t n h =
      free_more (reach_of c) (leaves t) (awaited.Key (key.At due) ∷ []) h (or_none (is_same (reach_of c) (awaited.Key (key.At due))) n)

  module _ (n : IsNoKey c) where
    mutual
      pub fire_frees : (t : Tree) → is_among (reach_of c) (leaves (fire c t)) ≡ false
      fire_frees (Over x) = refl
      fire_frees (Leaf on trig) = leaf_free (is_same (reach_of c) on) on trig refl
      fire_frees (Cycles k left trig) = cycles_free (is_same (reach_of c) (awaited.Key k)) k left trig refl (no_key n k)
      fire_frees (First ts) = first_free (first_over (fire_all c ts)) (fire_all c ts) (first_bare (fire_all c ts)) (fires_free ts)
      fire_frees (Combine trig ts) =
          combine_free (first_faulted (fire_all c ts)) (are_over (fire_all c ts)) trig (fire_all c ts) (fault_bare (fire_all c ts)) (fires_free ts)
      fire_frees (Limit due t) =
          limit_free (is_over (fire c t)) (is_same (reach_of c) (awaited.Key (key.At due))) due (fire c t) (no_key n (key.At due)) (fire_frees t)

      fires_free : (ts : Trees) → is_among (reach_of c) (all_leaves (fire_all c ts)) ≡ false
      fires_free NoTree = refl
      fires_free (Then t ts) = free_more (reach_of c) (leaves (fire c t)) (all_leaves (fire_all c ts)) (fire_frees t) (fires_free ts)
