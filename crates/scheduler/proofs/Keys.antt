-- Which lists of keys are timely.
use Rattle.std.proofs.Common.{◌≡◌, ℕ, ◌≤◌, ◌⊎◌, Bool, true, false, List, [], ◌∷◌, ◌++◌, Option, None, Some, refl, ap, sym, ◌∙◌, arith, rules, inl, inr}
use Rattle.std.specs.Prelude.{◌==◌, ◌||◌, IfSome, filter, cond, nat_lt, if◌then◌else◌}
use Rattle.gpi.specs.State.{is_end}
use Rattle.gpi.specs.Keys.{among, same_key, least, lesser, times_of}
use Rattle.gpi.specs.declared.types.Key.{Key}
use Rattle.gpi.specs.declared.types.Key.TheVariants.{At, Rise, Fall, Change, ReadWrite, ReadOnly, NextStep}
use Rattle.gpi.specs.declared.types.Region.{Region}
use Rattle.py_syntax.specs.declared.fault_kind.FaultKind.TheVariants.{OverflowError, RuntimeError}
use Rattle.py_value.specs.Answer.{plain_fault}
use Rattle.py_value.specs.declared.value.Fault.{Fault}
use Rattle.await_tree.specs.declared.cause.Awaited.{Awaited}
use Rattle.await_tree.specs.declared.cause.Awaited.TheVariants as awaited
use Rattle.await_tree.specs.Fire.{is_among}
use Rattle.await_tree.specs.Laws.{IsWithin}
use Rattle.await_tree.specs.Check.{last_time, or_fault, refusals}
use Rattle.await_tree.specs.WaitList.Waiting.{keys_among}
use Rattle.scheduler.specs.Timely.{AreTimely}

-- ---- tests and numbers

or_or : (a b c : Bool) → (a || (b || c)) ≡ ((a || b) || c)
or_or true b c = refl
or_or false b c = refl

either : (a b : Bool) → (a || b) ≡ true → (a ≡ true) ⊎ (b ≡ true)
either true b h = inl refl
either false b h = inr h

second : (a b : Bool) → b ≡ true → (a || b) ≡ true
second true b h = refl
second false b h = h

same_number : (m n : ℕ) → (m == n) ≡ true → m ≡ n
same_number m n h = search rules

itself : (n : ℕ) → (n == n) ≡ true
itself n = search rules

pub not_later : (latest due : ℕ) → nat_lt latest due ≡ false → due ≤ latest
not_later latest due h = search rules

-- ---- lists of keys

among_more : (k : Key) (xs ys : List Key) → among k (xs ++ ys) ≡ (among k xs || among k ys)
among_more k [] ys = refl
among_more k (x ∷ xs) ys = ap (λ (b : Bool). same_key k x || b) (among_more k xs ys) ∙ or_or (same_key k x) (among k xs) (among k ys)

among_kept : (k : Key) (b : Bool) (x : Key) (xs ys : List Key) → (among k ys ≡ true → among k xs ≡ true) → among k (cond b (x ∷ ys) ys) ≡ true
    → among k (x ∷ xs) ≡ true
among_kept k true x xs ys h e =
    elim (either (same_key k x) (among k ys) e) [ inl p ↦ ap (λ (b : Bool). b || among k xs) p | inr q ↦ second (same_key k x) (among k xs) (h q) ]
among_kept k false x xs ys h e = second (same_key k x) (among k xs) (h e)

among_filtered : (p : Key → Bool) (xs : List Key) (k : Key) → among k (filter p xs) ≡ true → among k xs ≡ true
among_filtered p [] k e = e
among_filtered p (x ∷ xs) k e = among_kept k (p x) x xs (filter p xs) (among_filtered p xs k) e

module _ (latest : ℕ) where
  pub none : AreTimely latest []
  none = λ (due : ℕ) (e : among (At due) [] ≡ true). absurd (cc)

  pub both : (xs ys : List Key) → AreTimely latest xs → AreTimely latest ys → AreTimely latest (xs ++ ys)
  both xs ys h k =
      λ (due : ℕ) (e : among (At due) (xs ++ ys) ≡ true).
      elim (either (among (At due) xs) (among (At due) ys) (sym (among_more (At due) xs ys) ∙ e)) [ inl p ↦ h due p | inr q ↦ k due q ]

  pub front : (xs ys : List Key) → AreTimely latest (xs ++ ys) → AreTimely latest xs
  front xs ys h =
      λ (due : ℕ) (e : among (At due) xs ≡ true). h due (among_more (At due) xs ys ∙ ap (λ (b : Bool). b || among (At due) ys) e)

  pub back : (xs ys : List Key) → AreTimely latest (xs ++ ys) → AreTimely latest ys
  back xs ys h =
      λ (due : ℕ) (e : among (At due) ys ≡ true). h due (among_more (At due) xs ys ∙ second (among (At due) xs) (among (At due) ys) e)

  pub filtered : (p : Key → Bool) (xs : List Key) → AreTimely latest xs → AreTimely latest (filter p xs)
  filtered p xs h = λ (due : ℕ) (e : among (At due) (filter p xs) ≡ true). h due (among_filtered p xs (At due) e)

  pub one_more : (t : ℕ) (ks : List Key) → t ≤ latest → AreTimely latest ks → AreTimely latest (At t ∷ ks)
  one_more t ks l h =
      λ (due : ℕ) (e : among (At due) (At t ∷ ks) ≡ true).
      elim (either (due == t) (among (At due) ks) e) [ inl p ↦ let same : due ≡ t = same_number due t p in omega arith | inr q ↦ h due q ]

  -- what is timely by one time is so by a later one
  pub later : (more : ℕ) (ks : List Key) → latest ≤ more → AreTimely latest ks → AreTimely more ks
  later more ks l h = λ (due : ℕ) (e : among (At due) ks ≡ true). let d : due ≤ latest = h due e in omega arith

  -- the least of the times
  pub lesser_within : (t : ℕ) (o : Option ℕ) → t ≤ latest → IfSome (lesser t o) (λ (u : ℕ). u ≤ latest)
  lesser_within t None h = h
  lesser_within t (Some u) h = omega arith

  pub least_within : (ks : List Key) → AreTimely latest ks → IfSome (least (times_of ks)) (λ (u : ℕ). u ≤ latest)
  least_within [] h = tt
  least_within (At t ∷ ks) h = lesser_within t (least (times_of ks)) (h t (ap (λ (b : Bool). b || among (At t) ks) (itself t)))
  least_within (Rise sig ∷ ks) h = least_within ks h
  least_within (Fall sig ∷ ks) h = least_within ks h
  least_within (Change sig ∷ ks) h = least_within ks h
  least_within (ReadWrite ∷ ks) h = least_within ks h
  least_within (ReadOnly ∷ ks) h = least_within ks h
  least_within (NextStep ∷ ks) h = least_within ks h

  -- ---- leaves

  keys_among_is : (k : Key) (ws : List Awaited) → is_among (awaited.Key k) ws ≡ among k (keys_among ws)
  keys_among_is k [] = refl
  keys_among_is k (awaited.Key own ∷ ws) = ap (λ (b : Bool). same_key k own || b) (keys_among_is k ws)
  keys_among_is k (awaited.Event event ∷ ws) = keys_among_is k ws
  keys_among_is k (awaited.Lock lock ∷ ws) = keys_among_is k ws
  keys_among_is k (awaited.Join task ∷ ws) = keys_among_is k ws

  pub within_timely : (xs ys : List Awaited) → IsWithin xs ys → AreTimely latest (keys_among ys) → AreTimely latest (keys_among xs)
  within_timely xs ys w h =
      λ (due : ℕ) (e : among (At due) (keys_among xs) ≡ true).
      h due (sym (keys_among_is (At due) ys) ∙ w (awaited.Key (At due)) (keys_among_is (At due) xs ∙ e))

-- ---- leaves that may begin

allowed : (b : Bool) (f : Fault) (o : Option Fault) → or_fault (if b then Some f else None) o ≡ None → (b ≡ false) × (o ≡ None)
allowed true f o h = absurd (cc)
allowed false f o h = (refl, h)

pub allowed_timely : (ws : List Awaited) (phase : Region) → refusals ws phase ≡ None → AreTimely last_time (keys_among ws)
allowed_timely [] phase h = none last_time
allowed_timely (awaited.Key (At due) ∷ ws) phase h =
    let a : (nat_lt last_time due ≡ false) × (refusals ws phase ≡ None) = allowed (nat_lt last_time due) (plain_fault OverflowError) (refusals ws phase) h in
    one_more last_time due (keys_among ws) (not_later last_time due a.0) (allowed_timely ws phase a.1)
allowed_timely (awaited.Key (Rise sig) ∷ ws) phase h = allowed_timely ws phase h
allowed_timely (awaited.Key (Fall sig) ∷ ws) phase h = allowed_timely ws phase h
allowed_timely (awaited.Key (Change sig) ∷ ws) phase h = allowed_timely ws phase h
allowed_timely (awaited.Key ReadWrite ∷ ws) phase h = allowed_timely ws phase (allowed (is_end phase) (plain_fault RuntimeError) (refusals ws phase) h).1
allowed_timely (awaited.Key ReadOnly ∷ ws) phase h = allowed_timely ws phase (allowed (is_end phase) (plain_fault RuntimeError) (refusals ws phase) h).1
allowed_timely (awaited.Key NextStep ∷ ws) phase h = allowed_timely ws phase h
allowed_timely (awaited.Event event ∷ ws) phase h = allowed_timely ws phase h
allowed_timely (awaited.Lock lock ∷ ws) phase h = allowed_timely ws phase h
allowed_timely (awaited.Join task ∷ ws) phase h = allowed_timely ws phase h
