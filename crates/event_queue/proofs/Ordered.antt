-- Updates in the order of their time.
use Rattle.std.proofs.Common.{◌≡◌, ℕ, zero, suc, ◌+◌, ◌-◌, ◌<◌, ◌≤◌, ◌==◌, ◌&&◌, nat_le, nat_lt, not, Bool, true, false, if◌then◌else◌, List, [], ◌∷◌, ◌++◌, length, take, drop, Option, Some, None, IsTrue, refl, sym, ap, ◌∙◌, arith, min, add-one, append-nil, append_assoc}
use Rattle.std.proofs.lemmas.Bool.{and_parts}
use Rattle.std.proofs.lemmas.Bool.Decides.{nat_tests}
use Rattle.gpi.specs.declared.types.Update.{Update}
use Rattle.gpi.specs.declared.types.Delayed.{Delayed}
use Rattle.gpi.specs.Keys.{least, lesser}
use Rattle.gpi.specs.State.{with_delayed, arriving, waiting_on, delayed_times}
use Rattle.kernel_base.specs.Lists.{is_empty}
use Rattle.event_queue.specs.Waiting.{are_from, are_in_order, sorted_of, time_of_first, Arrives}

pub not_above : (m n : ℕ) → nat_le m n ≡ true → m ≤ n
not_above m n h = grind (arith, nat_tests)

is_above : (m n : ℕ) → n < m → nat_le m n ≡ false
is_above m n h = grind (arith, nat_tests)

pub is_at_most : (m n : ℕ) → m ≤ n → nat_le m n ≡ true
is_at_most m n h = grind (arith, nat_tests)

apart : (m n : ℕ) → m < n → (n == m) ≡ false
apart m n h = grind (arith, nat_tests)

-- ---- where an update belongs

before_later : (d e : Delayed) (ds : List Delayed) → d.time < e.time → with_delayed d (e ∷ ds) ≡ d ∷ e ∷ ds
before_later d e ds h = rw (is_above e.time d.time h) refl

pub behind : (d e : Delayed) (ds : List Delayed) → e.time ≤ d.time → with_delayed d (e ∷ ds) ≡ e ∷ with_delayed d ds
behind d e ds h = rw (is_at_most e.time d.time h) refl

-- it belongs before those that are all later
pub before_all : (t : ℕ) (d : Delayed) (ds : List Delayed) → d.time < t → are_from t ds ≡ true → with_delayed d ds ≡ d ∷ ds
before_all t d [] h f = refl
before_all t d (e ∷ es) h f =
    let p = and_parts (nat_le t e.time) (are_from t es) f in
    let l : t ≤ e.time = not_above t e.time p.0 in
    before_later d e es (omega arith)

length_choice : (b : Bool) (d e : Delayed) (xs es : List Delayed) → length xs ≡ suc (length es) → length (if b then e ∷ xs else d ∷ e ∷ es) ≡ suc (suc (length es))
length_choice true d e xs es h = ap suc h
length_choice false d e xs es h = refl

pub length_with : (d : Delayed) (ds : List Delayed) → length (with_delayed d ds) ≡ suc (length ds)
length_with d [] = refl
length_with d (e ∷ es) = length_choice (nat_le e.time d.time) d e (with_delayed d es) es (length_with d es)

-- ---- the least time

lesser_step : (k x : ℕ) (o : Option ℕ) → k ≤ x → lesser k o ≡ Some k → lesser k (lesser x o) ≡ Some k
lesser_step k x None h e = ap Some (omega arith)
lesser_step k x (Some u) h e = let f : min k u ≡ k = cc in ap Some (omega arith)

pub from_lesser : (t : ℕ) (ds : List Delayed) → are_from t ds ≡ true → lesser t (least (delayed_times ds)) ≡ Some t
from_lesser t [] h = refl
from_lesser t (d ∷ ds) h =
    let p = and_parts (nat_le t d.time) (are_from t ds) h in
    lesser_step t d.time (least (delayed_times ds)) (not_above t d.time p.0) (from_lesser t ds p.1)

pub first_least : (d : Delayed) (ds : List Delayed) → are_in_order (d ∷ ds) ≡ true → Some d.time ≡ least (delayed_times (d ∷ ds))
first_least d ds h = let p = and_parts (are_from d.time ds) (are_in_order ds) h in sym (from_lesser d.time ds p.0)

-- ---- those that arrive

pub none_arrives : (t : ℕ) (ds : List Delayed) (x : ℕ) → t < x → are_from x ds ≡ true → (arriving t ds ≡ []) × (waiting_on t ds ≡ ds)
none_arrives t [] x h f = (refl, refl)
none_arrives t (d ∷ ds) x h f =
    let p = and_parts (nat_le x d.time) (are_from x ds) f in
    let l : x ≤ d.time = not_above x d.time p.0 in
    let r = none_arrives t ds x h p.1 in
    (rw (apart t d.time (omega arith)) r.0, rw (apart t d.time (omega arith)) (ap (λ (es : List Delayed). d ∷ es) r.1))

not_same : (m n : ℕ) → m ≤ n → (n == m) ≡ false → m < n
not_same m n h k = grind (arith, nat_tests)

-- none of the others arrives
pub all_arrived : (t : ℕ) (before after : List Delayed) → are_in_order before ≡ true → are_from t before ≡ true → Arrives t before None after
    → (arriving t before ≡ []) × (waiting_on t before ≡ after)
all_arrived t [] after o f a = (refl, sym a)
all_arrived t (d ∷ ds) after o f a =
    let p = and_parts (nat_le t d.time) (are_from t ds) f in
    let q = and_parts (are_from d.time ds) (are_in_order ds) o in
    let l : t < d.time = not_same t d.time (not_above t d.time p.0) a.0 in
    let r = none_arrives t ds d.time l q.0 in
    (rw a.0 r.0, rw a.0 (ap (λ (es : List Delayed). d ∷ es) r.1) ∙ sym a.1)

pub none_there : (t : ℕ) (ds : List Delayed) → None ≡ time_of_first ds → Arrives t ds None ds
none_there t [] e = refl
none_there t (d ∷ ds) e = absurd (cc)

pub other_first : (t u : ℕ) (ds : List Delayed) → Some u ≡ time_of_first ds → (u == t) ≡ false → Arrives t ds None ds
other_first t u [] e h = absurd (cc)
other_first t u (d ∷ ds) e h = let f : u ≡ d.time = cc in (rw (← f) h, refl)

pub first_taken : (t u : ℕ) (p : (ℕ × ℕ) × Update) (old new : List ((ℕ × ℕ) × Update)) → Some u ≡ time_of_first (sorted_of old) → (u == t) ≡ true → old ≡ p ∷ new
    → Arrives t (sorted_of old) (Some p.1) (sorted_of new)
first_taken t u p old new e h r =
    let f : Some u ≡ Some p.0.0 = e ∙ ap (λ (es : List ((ℕ × ℕ) × Update)). time_of_first (sorted_of es)) r in
    let g : u ≡ p.0.0 = cc in
    (record { time = p.0.0; update = p.1 }, ap sorted_of r, rw (← g) h, refl)

-- the first arrives
pub one_arrived : (t : ℕ) (before after : List Delayed) (u : Update) (us : List Update) → Arrives t before (Some u) after
    → ((us ++ u ∷ []) ++ arriving t after ≡ us ++ arriving t before) × (waiting_on t after ≡ waiting_on t before)
one_arrived t before after u us a =
    (rw (a.1, a.2, append_assoc, a.3) refl, rw (a.1, a.2) refl)

pub one_ordered : (t : ℕ) (before after : List Delayed) (u : Update) → are_in_order before ≡ true → are_from t before ≡ true → Arrives t before (Some u) after
    → (are_in_order after ≡ true) × (are_from t after ≡ true)
one_ordered t before after u o f a =
    let p = and_parts (are_from a.0.time after) (are_in_order after) (rw a.1 at o) in
    let q = and_parts (nat_le t a.0.time) (are_from t after) (rw a.1 at f) in
    (p.1, q.1)

-- ---- what changes keep the order

from_if : (c : Bool) (t : ℕ) (ds es : List Delayed) → are_from t ds ≡ true → are_from t es ≡ true → are_from t (if c then ds else es) ≡ true
from_if true t ds es h k = h
from_if false t ds es h k = k

pub both : (a b : Bool) → a ≡ true → b ≡ true → (a && b) ≡ true
both true b h k = k
both false b h k = h

from_with : (t : ℕ) (d : Delayed) (ds : List Delayed) → t ≤ d.time → are_from t ds ≡ true → are_from t (with_delayed d ds) ≡ true
from_with t d [] h f = both _ _ (is_at_most t d.time h) refl
from_with t d (e ∷ es) h f =
    let p = and_parts (nat_le t e.time) (are_from t es) f in
    from_if (nat_le e.time d.time) t (e ∷ with_delayed d es) (d ∷ e ∷ es) (both _ _ p.0 (from_with t d es h p.1)) (both _ _ (is_at_most t d.time h) f)

from_less : (s t : ℕ) (ds : List Delayed) → s ≤ t → are_from t ds ≡ true → are_from s ds ≡ true
from_less s t [] h f = refl
from_less s t (d ∷ ds) h f =
    let p = and_parts (nat_le t d.time) (are_from t ds) f in
    let l : t ≤ d.time = not_above t d.time p.0 in
    both _ _ (is_at_most s d.time (omega arith)) (from_less s t ds h p.1)

order_if : (c : Bool) (ds es : List Delayed) → (c ≡ true → are_in_order ds ≡ true) → (c ≡ false → are_in_order es ≡ true) → are_in_order (if c then ds else es) ≡ true
order_if true ds es h k = h refl
order_if false ds es h k = k refl

pub not_at_most : (m n : ℕ) → nat_le m n ≡ false → n ≤ m
not_at_most m n h = grind (arith, nat_tests)

pub ordered_with : (d : Delayed) (ds : List Delayed) → are_in_order ds ≡ true → are_in_order (with_delayed d ds) ≡ true
ordered_with d [] o = refl
ordered_with d (e ∷ es) o =
    let p = and_parts (are_from e.time es) (are_in_order es) o in
    order_if (nat_le e.time d.time) (e ∷ with_delayed d es) (d ∷ e ∷ es)
    (λ c. both _ _ (from_with e.time d es (not_above e.time d.time c) p.0) (ordered_with d es p.1))
    (λ c. let l : d.time ≤ e.time = not_at_most e.time d.time c in both _ _ (both _ _ (is_at_most d.time e.time l) (from_less d.time e.time es l p.0)) o)

pub from_waiting : (s t : ℕ) (ds : List Delayed) → are_from s ds ≡ true → are_from s (waiting_on t ds) ≡ true
from_waiting s t [] f = refl
from_waiting s t (d ∷ ds) f =
    let p = and_parts (nat_le s d.time) (are_from s ds) f in
    let k = from_waiting s t ds p.1 in
    from_if (not (d.time == t)) s (d ∷ waiting_on t ds) (waiting_on t ds) (both _ _ p.0 k) k

pub ordered_waiting : (t : ℕ) (ds : List Delayed) → are_in_order ds ≡ true → are_in_order (waiting_on t ds) ≡ true
ordered_waiting t [] o = refl
ordered_waiting t (d ∷ ds) o =
    let p = and_parts (are_from d.time ds) (are_in_order ds) o in
    let k = ordered_waiting t ds p.1 in
    order_if (not (d.time == t)) (d ∷ waiting_on t ds) (waiting_on t ds) (λ c. both _ _ (from_waiting d.time t ds p.0) k) (λ c. k)

-- ---- the later ones

less_next : (n m : ℕ) → nat_lt (suc n) (suc m) ≡ nat_lt n m
less_next n m = grind (arith, nat_tests)

less_first : (m : ℕ) → nat_lt zero (suc m) ≡ true
less_first m = grind (arith, nat_tests)

less_none : (n : ℕ) → nat_lt n zero ≡ false
less_none n = grind (arith, nat_tests)

left_after : {A : Type 0} (n : ℕ) (xs : List A) → nat_lt n (length xs) ≡ not (is_empty (drop n xs))
left_after zero [] = less_none zero
left_after (suc n) [] = less_none (suc n)
left_after zero (x ∷ xs) = less_first (length xs)
left_after (suc n) (x ∷ xs) = less_next n (length xs) ∙ left_after n xs

pub any_left : {A : Type 0} (n : ℕ) (xs : List A) (l : ℕ) → l ≡ length xs → nat_lt n l ≡ not (is_empty (drop n xs))
any_left n xs l e = rw e (left_after n xs)
