-- Times that aren't before a first one: of lists, of keys and of the leaves of triggers that begin.
use Rattle.std.proofs.Common.{◌≡◌, ℕ, ◌+◌, ◌≤◌, ◌⊎◌, Bool, true, false, List, [], ◌∷◌, ◌++◌, Option, None, Some, refl, ap, sym, ◌∙◌, arith, rules, inl, inr}
use Rattle.std.specs.Prelude.{◌==◌, ◌||◌, IfSome, filter, cond}
use Rattle.gpi.specs.Keys.{among, same_key, least, lesser, times_of}
use Rattle.gpi.specs.declared.types.Key.{Key}
use Rattle.gpi.specs.declared.types.Key.TheVariants.{At, Rise, Fall, Change, ReadWrite, ReadOnly, NextStep}
use Rattle.gpi.specs.declared.types.Delayed.{Delayed}
use Rattle.gpi.specs.declared.types.SigId.{SigId}
use Rattle.gpi.specs.State.{delayed_times}
use Rattle.py_value.specs.Trigger as trigger
use Rattle.await_tree.specs.declared.cause.Awaited.{Awaited}
use Rattle.await_tree.specs.declared.cause.Awaited.TheVariants as awaited
use Rattle.await_tree.specs.Check.{tree_of, form_tree, all_trees, only, edge}
use Rattle.await_tree.specs.Fire.{is_among}
use Rattle.await_tree.specs.Laws.{IsWithin}
use Rattle.await_tree.specs.Tree.{leaves, all_leaves}
use Rattle.await_tree.specs.WaitList.Waiting.{keys_among}

-- none of the times is before the first one
abbrev pub AllFrom : ℕ → List ℕ → Type 0
AllFrom first [] = Unit {0}
AllFrom first (t ∷ ts) = (first ≤ t) × AllFrom first ts

-- none of the keys that is a time is before the first one
abbrev pub AreSince : ℕ → List Key → Type 0
AreSince first keys = (due : ℕ) → among (At due) keys ≡ true → first ≤ due

-- ---- lists of times

pub from_sooner : (first more : ℕ) (ts : List ℕ) → first ≤ more → AllFrom more ts → AllFrom first ts
from_sooner first more [] l h = tt
from_sooner first more (t ∷ ts) l (h, k) = (omega (arith, l, h), from_sooner first more ts l k)

pub from_front : (first : ℕ) (xs ys : List ℕ) → AllFrom first (xs ++ ys) → AllFrom first xs
from_front first [] ys h = tt
from_front first (x ∷ xs) ys (h, k) = (h, from_front first xs ys k)

pub from_back : (first : ℕ) (xs ys : List ℕ) → AllFrom first (xs ++ ys) → AllFrom first ys
from_back first [] ys h = h
from_back first (x ∷ xs) ys (h, k) = from_back first xs ys k

pub from_both : (first : ℕ) (xs ys : List ℕ) → AllFrom first xs → AllFrom first ys → AllFrom first (xs ++ ys)
from_both first [] ys h k = k
from_both first (x ∷ xs) ys (h, more) k = (h, from_both first xs ys more k)

-- the least of some times is one of them, and none of them is before it
lesser_since : (first t : ℕ) (o : Option ℕ) → first ≤ t → IfSome o (λ (u : ℕ). first ≤ u) → IfSome (lesser t o) (λ (u : ℕ). first ≤ u)
lesser_since first t None h k = h
lesser_since first t (Some u) h k = omega (arith, h, k)

pub least_since : (first : ℕ) (ts : List ℕ) → AllFrom first ts → IfSome (least ts) (λ (u : ℕ). first ≤ u)
least_since first [] h = tt
least_since first (t ∷ ts) (h, k) = lesser_since first t (least ts) h (least_since first ts k)

some_lesser : (t : ℕ) (o : Option ℕ) → lesser t o ≡ None → ⊥
some_lesser t None e = absurd (cc)
some_lesser t (Some u) e = absurd (cc)

all_lesser : (t : ℕ) (o : Option ℕ) (ts : List ℕ) → least ts ≡ o → IfSome o (λ (u : ℕ). AllFrom u ts) → IfSome (lesser t o) (λ (u : ℕ). AllFrom u (t ∷ ts))
all_lesser t None [] e h = (omega arith, tt)
all_lesser t None (u ∷ us) e h = absurd (some_lesser u (least us) e)
all_lesser t (Some u) ts e h = (omega arith, from_sooner _ u ts (omega arith) h)

pub least_first : (ts : List ℕ) → IfSome (least ts) (λ (u : ℕ). AllFrom u ts)
least_first [] = tt
least_first (t ∷ ts) = all_lesser t (least ts) ts refl (least_first ts)

pub delayed_kept : (first : ℕ) (p : Delayed → Bool) (ds : List Delayed) → AllFrom first (delayed_times ds) → AllFrom first (delayed_times (filter p ds))
delayed_kept first p [] h = tt
delayed_kept first p (d ∷ ds) (h, k) = decided (p d) (delayed_kept first p ds k)
  where
    decided : (b : Bool) → AllFrom first (delayed_times (filter p ds)) → AllFrom first (delayed_times (cond b (d ∷ filter p ds) (filter p ds)))
    decided true more = (h, more)
    decided false more = more

-- ---- lists of keys

or_or : (a b c : Bool) → (a || (b || c)) ≡ ((a || b) || c)
or_or true b c = refl
or_or false b c = refl

either : (a b : Bool) → (a || b) ≡ true → (a ≡ true) ⊎ (b ≡ true)
either true b h = inl refl
either false b h = inr h

second : (a b : Bool) → b ≡ true → (a || b) ≡ true
second true b h = refl
second false b h = h

same_number : (m n : ℕ) → (m == n) ≡ true → m ≡ n
same_number m n h = search rules

itself : (n : ℕ) → (n == n) ≡ true
itself n = search rules

among_more : (k : Key) (xs ys : List Key) → among k (xs ++ ys) ≡ (among k xs || among k ys)
among_more k [] ys = refl
among_more k (x ∷ xs) ys = ap (λ (b : Bool). same_key k x || b) (among_more k xs ys) ∙ or_or (same_key k x) (among k xs) (among k ys)

module _ (first : ℕ) where
  pub none : AreSince first []
  none = λ (due : ℕ) (e : among (At due) [] ≡ true). absurd (cc)

  pub both : (xs ys : List Key) → AreSince first xs → AreSince first ys → AreSince first (xs ++ ys)
  both xs ys h k =
      λ (due : ℕ) (e : among (At due) (xs ++ ys) ≡ true).
      elim (either (among (At due) xs) (among (At due) ys) (sym (among_more (At due) xs ys) ∙ e)) [ inl p ↦ h due p | inr q ↦ k due q ]

  pub front : (xs ys : List Key) → AreSince first (xs ++ ys) → AreSince first xs
  front xs ys h =
      λ (due : ℕ) (e : among (At due) xs ≡ true). h due (among_more (At due) xs ys ∙ ap (λ (b : Bool). b || among (At due) ys) e)

  pub back : (xs ys : List Key) → AreSince first (xs ++ ys) → AreSince first ys
  back xs ys h =
      λ (due : ℕ) (e : among (At due) ys ≡ true). h due (among_more (At due) xs ys ∙ second (among (At due) xs) (among (At due) ys) e)

  pub one_more : (t : ℕ) (ks : List Key) → first ≤ t → AreSince first ks → AreSince first (At t ∷ ks)
  one_more t ks l h =
      λ (due : ℕ) (e : among (At due) (At t ∷ ks) ≡ true).
      elim (either (due == t) (among (At due) ks) e) [ inl p ↦ let same : due ≡ t = same_number due t p in omega (arith, l) | inr q ↦ h due q ]

  -- by the times of the keys
  pub since_times : (ks : List Key) → AllFrom first (times_of ks) → AreSince first ks
  since_times [] h = none
  since_times (At t ∷ ks) (h, k) = one_more t ks h (since_times ks k)
  since_times (Rise sig ∷ ks) h = since_times ks h
  since_times (Fall sig ∷ ks) h = since_times ks h
  since_times (Change sig ∷ ks) h = since_times ks h
  since_times (ReadWrite ∷ ks) h = since_times ks h
  since_times (ReadOnly ∷ ks) h = since_times ks h
  since_times (NextStep ∷ ks) h = since_times ks h

  pub times_since : (ks : List Key) → AreSince first ks → AllFrom first (times_of ks)
  times_since [] h = tt
  times_since (At t ∷ ks) h =
      (h t (ap (λ (b : Bool). b || among (At t) ks) (itself t)), times_since ks (λ (due : ℕ) (e : among (At due) ks ≡ true). h due (second (due == t) (among (At due) ks) e)))
  times_since (Rise sig ∷ ks) h = times_since ks h
  times_since (Fall sig ∷ ks) h = times_since ks h
  times_since (Change sig ∷ ks) h = times_since ks h
  times_since (ReadWrite ∷ ks) h = times_since ks h
  times_since (ReadOnly ∷ ks) h = times_since ks h
  times_since (NextStep ∷ ks) h = times_since ks h

  -- ---- leaves

  keys_among_is : (k : Key) (ws : List Awaited) → is_among (awaited.Key k) ws ≡ among k (keys_among ws)
  keys_among_is k [] = refl
  keys_among_is k (awaited.Key own ∷ ws) = ap (λ (b : Bool). same_key k own || b) (keys_among_is k ws)
  keys_among_is k (awaited.Event event ∷ ws) = keys_among_is k ws
  keys_among_is k (awaited.Lock lock ∷ ws) = keys_among_is k ws
  keys_among_is k (awaited.Join task ∷ ws) = keys_among_is k ws

  pub within_since : (xs ys : List Awaited) → IsWithin xs ys → AreSince first (keys_among ys) → AreSince first (keys_among xs)
  within_since xs ys w h =
      λ (due : ℕ) (e : among (At due) (keys_among xs) ≡ true).
      h due (sym (keys_among_is (At due) ys) ∙ w (awaited.Key (At due)) (keys_among_is (At due) xs ∙ e))

  keys_more : (xs ys : List Awaited) → AreSince first (keys_among xs) → AreSince first (keys_among ys) → AreSince first (keys_among (xs ++ ys))
  keys_more [] ys h k = k
  keys_more (awaited.Key own ∷ xs) ys h k =
      both (own ∷ []) (keys_among (xs ++ ys)) (front (own ∷ []) (keys_among xs) h) (keys_more xs ys (back (own ∷ []) (keys_among xs) h) k)
  keys_more (awaited.Event event ∷ xs) ys h k = keys_more xs ys h k
  keys_more (awaited.Lock lock ∷ xs) ys h k = keys_more xs ys h k
  keys_more (awaited.Join task ∷ xs) ys h k = keys_more xs ys h k

-- what a trigger that begins now waits for doesn't come before now
module _ (now : ℕ) where
  rise_since : (sig : SigId) → AreSince now (Rise sig ∷ [])
  rise_since sig = λ (due : ℕ) (e : among (At due) (Rise sig ∷ []) ≡ true). absurd (cc)

  fall_since : (sig : SigId) → AreSince now (Fall sig ∷ [])
  fall_since sig = λ (due : ℕ) (e : among (At due) (Fall sig ∷ []) ≡ true). absurd (cc)

  change_since : (sig : SigId) → AreSince now (Change sig ∷ [])
  change_since sig = λ (due : ℕ) (e : among (At due) (Change sig ∷ []) ≡ true). absurd (cc)

  write_since : AreSince now (ReadWrite ∷ [])
  write_since = λ (due : ℕ) (e : among (At due) (ReadWrite ∷ []) ≡ true). absurd (cc)

  read_since : AreSince now (ReadOnly ∷ [])
  read_since = λ (due : ℕ) (e : among (At due) (ReadOnly ∷ []) ≡ true). absurd (cc)

  step_since : AreSince now (NextStep ∷ [])
  step_since = λ (due : ℕ) (e : among (At due) (NextStep ∷ []) ≡ true). absurd (cc)

  edge_since : (rising : Bool) (sig : SigId) → AreSince now (edge rising sig ∷ [])
  edge_since true sig = rise_since sig
  edge_since false sig = fall_since sig

  due_since : (steps : ℕ) → AreSince now (At (now + steps) ∷ [])
  due_since steps = one_more now (now + steps) [] (omega arith) (none now)

  mutual
    pub tree_since : (t : trigger.Trig) → AreSince now (keys_among (leaves (tree_of t now)))
    tree_since (trigger.Made id form) = form_since form (trigger.Made id form)

    form_since : (form : trigger.Form) (trig : trigger.Trig) → AreSince now (keys_among (leaves (form_tree form trig now)))
    form_since (trigger.Time steps) trig = due_since steps
    form_since (trigger.Rise sig) trig = rise_since sig
    form_since (trigger.Fall sig) trig = fall_since sig
    form_since (trigger.Change sig) trig = change_since sig
    form_since trigger.ReadWrite trig = write_since
    form_since trigger.ReadOnly trig = read_since
    form_since trigger.NextStep trig = step_since
    form_since (trigger.Cycles sig count rising) trig = edge_since rising sig
    form_since (trigger.Event event) trig = none now
    form_since (trigger.Lock lock) trig = none now
    form_since (trigger.Join task) trig = none now
    form_since (trigger.First ts) trig = all_since ts
    form_since (trigger.Combine ts) trig = all_since ts
    form_since (trigger.Limit inner steps) trig =
        keys_more now (leaves (only (all_trees inner now))) (awaited.Key (At (now + steps)) ∷ []) (only_since inner) (due_since steps)

    only_since : (ts : trigger.Trigs) → AreSince now (keys_among (leaves (only (all_trees ts now))))
    only_since trigger.NoTrig = none now
    only_since (trigger.Then t ts) = tree_since t

    all_since : (ts : trigger.Trigs) → AreSince now (keys_among (all_leaves (all_trees ts now)))
    all_since trigger.NoTrig = none now
    all_since (trigger.Then t ts) = keys_more now (leaves (tree_of t now)) (all_leaves (all_trees ts now)) (tree_since t) (all_since ts)
