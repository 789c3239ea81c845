-- Updates that are put among the others one after the other.
use Rattle.std.proofs.Common.{◌≡◌, ℕ, zero, suc, ◌+◌, ◌<◌, ◌≤◌, ◌==◌, nat_le, nat_lt, ◌&&◌, not, Bool, true, false, if◌then◌else◌, List, [], ◌∷◌, ◌++◌, length, take, drop, map, Option, Some, None, IsTrue, refl, sym, ap, ◌∙◌, arith, append-nil, append_assoc, slice_get, slice_index_or}
use Rattle.std.specs.List.{filter}
use Rattle.std.specs.Ordering.{nat_cmp, ordering_then}
use Rattle.std.specs.declared.cmp.Ordering.{Ordering}
use Rattle.std.specs.declared.cmp.Ordering.TheVariants.{Less, Greater}
use Rattle.std.specs.BTreeMap.{insert_entry}
use Rattle.std.proofs.lemmas.Bool.{and_parts}
use Rattle.std.proofs.lemmas.Bool.Decides.{nat_tests}
use Rattle.std.proofs.lemmas.List.{take-append-le}
use Rattle.gpi.specs.declared.types.Update.{Update}
use Rattle.gpi.specs.declared.types.Delayed.{Delayed}
use Rattle.gpi.specs.Keys.{least, lesser}
use Rattle.gpi.specs.State.{with_delayed, arriving, waiting_on, delayed_times}
use Rattle.kernel_base.specs.TimeSets.{sooner}
use Rattle.kernel_base.proofs.TimeSets.{lesser_swap, lesser_sooner, sooner_lesser}
use Rattle.event_queue.specs.Waiting.{are_from, are_in_order, are_before, sorted_of, all_with, time_of_first, Turns}
use Rattle.event_queue.proofs.Ordered.{before_all, behind, length_with, first_least, ordered_with, from_waiting, none_arrives, not_above, is_at_most, not_at_most, both}

-- ---- in a map by time and number

abbrev by_both : ℕ × ℕ → ℕ × ℕ → Ordering
by_both x y = ordering_then (nat_cmp x.0 y.0) (nat_cmp x.1 y.1)

then_more : (t u s r : ℕ) → u ≤ t → r < s → ordering_then (nat_cmp t u) (nat_cmp s r) ≡ Greater
then_more t u s r h k = grind (arith, nat_tests)

then_less : (t u s r : ℕ) → t < u → ordering_then (nat_cmp t u) (nat_cmp s r) ≡ Less
then_less t u s r h = grind (arith, nat_tests)

is_less : (m n : ℕ) → m < n → nat_lt m n ≡ true
is_less m n h = grind (arith, nat_tests)

less : (m n : ℕ) → nat_lt m n ≡ true → m < n
less m n h = grind (arith, nat_tests)

less_from : (m n : ℕ) → nat_le m n ≡ false → n < m
less_from m n h = grind (arith, nat_tests)

place_step : (b : Bool) (t s : ℕ) (u : Update) (e : (ℕ × ℕ) × Update) (es : List ((ℕ × ℕ) × Update)) → nat_le e.0.0 t ≡ b → e.0.1 < s
    → sorted_of (insert_entry by_both es (t, s) u) ≡ with_delayed (record { time = t; update = u }) (sorted_of es)
    → sorted_of (insert_entry by_both (e ∷ es) (t, s) u) ≡ with_delayed (record { time = t; update = u }) (sorted_of (e ∷ es))
place_step true t s u e es h k i =
    rw (then_more t e.0.0 s e.0.1 (not_above e.0.0 t h) k, h) (ap (λ (ds : List Delayed). record { time = e.0.0; update = e.1 } ∷ ds) i)
place_step false t s u e es h k i = rw (then_less t e.0.0 s e.0.1 (less_from e.0.0 t h), h) refl

-- one whose number is behind all others goes behind those of its time
pub put_sorted : (t s : ℕ) (u : Update) (es : List ((ℕ × ℕ) × Update)) → are_before s es ≡ true
    → sorted_of (insert_entry by_both es (t, s) u) ≡ with_delayed (record { time = t; update = u }) (sorted_of es)
put_sorted t s u [] h = refl
put_sorted t s u (e ∷ es) h =
    let p = and_parts (nat_lt e.0.1 s) (are_before s es) h in
    place_step (nat_le e.0.0 t) t s u e es refl (less e.0.1 s p.0) (put_sorted t s u es p.1)

-- all numbers are before the next one
later_number : (s n : ℕ) (es : List ((ℕ × ℕ) × Update)) → s ≤ n → are_before s es ≡ true → are_before n es ≡ true
later_number s n [] h k = refl
later_number s n (e ∷ es) h k =
    let p = and_parts (nat_lt e.0.1 s) (are_before s es) k in
    let l = less e.0.1 s p.0 in
    both _ _ (is_less e.0.1 n (omega arith)) (later_number s n es h p.1)

number_step : (b : Bool) (t s n : ℕ) (u : Update) (e : (ℕ × ℕ) × Update) (es : List ((ℕ × ℕ) × Update)) → nat_le e.0.0 t ≡ b → s < n → are_before s (e ∷ es) ≡ true
    → are_before n (insert_entry by_both es (t, s) u) ≡ true → are_before n (insert_entry by_both (e ∷ es) (t, s) u) ≡ true
number_step true t s n u e es h l k i =
    let p = and_parts (nat_lt e.0.1 s) (are_before s es) k in
    let g = less e.0.1 s p.0 in
    rw (then_more t e.0.0 s e.0.1 (not_above e.0.0 t h) g) (both _ _ (is_less e.0.1 n (omega arith)) i)
number_step false t s n u e es h l k i =
    rw (then_less t e.0.0 s e.0.1 (less_from e.0.0 t h)) (both _ _ (is_less s n l) (later_number s n (e ∷ es) (omega arith) k))

pub put_numbered : (t s n : ℕ) (u : Update) (es : List ((ℕ × ℕ) × Update)) → s < n → are_before s es ≡ true → are_before n (insert_entry by_both es (t, s) u) ≡ true
put_numbered t s n u [] l h = both _ _ (is_less s n l) refl
put_numbered t s n u (e ∷ es) l h =
    let p = and_parts (nat_lt e.0.1 s) (are_before s es) h in
    number_step (nat_le e.0.0 t) t s n u e es refl l h (put_numbered t s n u es l p.1)

-- the first entry taken out leaves the numbers
pub first_out : (n : ℕ) (p : (ℕ × ℕ) × Update) (old new : List ((ℕ × ℕ) × Update)) → old ≡ p ∷ new → are_before n old ≡ true → are_before n new ≡ true
first_out n p old new e h = let q = and_parts (nat_lt p.0.1 n) (are_before n new) (rw e at h) in q.1

-- ---- the first

pub first_of : (es : List ((ℕ × ℕ) × Update)) (k : ℕ × ℕ) (u : Update) → slice_get es 0 ≡ Some (k, u) → Some k.0 ≡ time_of_first (sorted_of es)
first_of [] k u h = absurd (cc)
first_of (e ∷ es) k u h = let f : e ≡ (k, u) = cc in ap (λ (x : (ℕ × ℕ) × Update). Some x.0.0) (sym f)

pub first_is_least : (o : Option ℕ) (ds : List Delayed) → o ≡ time_of_first ds → are_in_order ds ≡ true → o ≡ least (delayed_times ds)
first_is_least o [] e h = e
first_is_least o (d ∷ ds) e h = e ∙ first_least d ds h

-- ---- one after the other

pub all_push : (fs ds : List Delayed) (d : Delayed) → all_with (fs ++ d ∷ []) ds ≡ with_delayed d (all_with fs ds)
all_push [] ds d = refl
all_push (f ∷ fs) ds d = all_push fs (with_delayed f ds) d

pub length_all : (fs ds : List Delayed) → length (all_with fs ds) ≡ length fs + length ds
length_all [] ds = omega arith
length_all (f ∷ fs) ds = length_all fs (with_delayed f ds) ∙ rw (length_with f ds) (omega arith)

pub length_sorted : (es : List ((ℕ × ℕ) × Update)) → length (sorted_of es) ≡ length es
length_sorted [] = refl
length_sorted (e ∷ es) = ap suc (length_sorted es)

-- ---- the least time

least_choice : (b : Bool) (d e : Delayed) (xs es : List Delayed) → least (delayed_times xs) ≡ lesser d.time (least (delayed_times es))
    → least (delayed_times (if b then e ∷ xs else d ∷ e ∷ es)) ≡ lesser d.time (lesser e.time (least (delayed_times es)))
least_choice true d e xs es h = rw h (lesser_swap e.time d.time (least (delayed_times es)))
least_choice false d e xs es h = refl

least_with : (d : Delayed) (ds : List Delayed) → least (delayed_times (with_delayed d ds)) ≡ lesser d.time (least (delayed_times ds))
least_with d [] = refl
least_with d (e ∷ es) = least_choice (nat_le e.time d.time) d e (with_delayed d es) es (least_with d es)

pub least_all : (fs ds : List Delayed) → sooner (least (delayed_times fs)) (least (delayed_times ds)) ≡ least (delayed_times (all_with fs ds))
least_all [] ds = refl
least_all (f ∷ fs) ds =
    sym (lesser_sooner f.time (least (delayed_times fs)) (least (delayed_times ds)))
    ∙ sym (sooner_lesser f.time (least (delayed_times fs)) (least (delayed_times ds)))
    ∙ ap (λ (o : Option ℕ). sooner (least (delayed_times fs)) o) (sym (least_with f ds))
    ∙ least_all fs (with_delayed f ds)

-- ---- those that arrive

abbrev one : Bool → Update → List Update
one b u = if b then u ∷ [] else []

arriving_choice : (b : Bool) (d : Delayed) (ds : List Delayed) → map (λ (e : Delayed). e.update) (if b then d ∷ ds else ds) ≡ one b d.update ++ map (λ (e : Delayed). e.update) ds
arriving_choice true d ds = refl
arriving_choice false d ds = refl

arriving_cons : (t : ℕ) (d : Delayed) (ds : List Delayed) → arriving t (d ∷ ds) ≡ one (d.time == t) d.update ++ arriving t ds
arriving_cons t d ds = arriving_choice (d.time == t) d (filter (λ e. e.time == t) ds)

same_time : (m n : ℕ) → (m == n) ≡ true → m ≡ n
same_time m n h = grind (arith, nat_tests)

from_first : (e : Delayed) (es : List Delayed) → are_in_order (e ∷ es) ≡ true → are_from e.time (e ∷ es) ≡ true
from_first e es o = let p = and_parts (are_from e.time es) (are_in_order es) o in both _ _ (is_at_most e.time e.time (omega arith)) p.0

swap_one : (b : Bool) (u : Update) (us : List Update) → (b ≡ true → us ≡ []) → one b u ++ us ≡ us ++ one b u
swap_one true u us h = rw (h refl) refl
swap_one false u us h = sym (append-nil us)

arriving_step : (b : Bool) (t : ℕ) (d e : Delayed) (es : List Delayed) → nat_le e.time d.time ≡ b → are_in_order (e ∷ es) ≡ true
    → arriving t (with_delayed d es) ≡ arriving t es ++ one (d.time == t) d.update
    → arriving t (with_delayed d (e ∷ es)) ≡ arriving t (e ∷ es) ++ one (d.time == t) d.update
arriving_step true t d e es h o i =
    rw (h, arriving_cons t e (with_delayed d es), i, arriving_cons t e es, append_assoc) refl
arriving_step false t d e es h o i =
    rw (h, arriving_cons t d (e ∷ es))
    (swap_one (d.time == t) d.update (arriving t (e ∷ es)) (λ s.
    let q = same_time d.time t s in
    let l = less_from e.time d.time h in
    let r = none_arrives t (e ∷ es) e.time (omega arith) (from_first e es o) in r.0))

arriving_with : (t : ℕ) (d : Delayed) (ds : List Delayed) → are_in_order ds ≡ true → arriving t (with_delayed d ds) ≡ arriving t ds ++ one (d.time == t) d.update
arriving_with t d [] o = arriving_cons t d [] ∙ append-nil (one (d.time == t) d.update)
arriving_with t d (e ∷ es) o =
    let p = and_parts (are_from e.time es) (are_in_order es) o in
    arriving_step (nat_le e.time d.time) t d e es refl o (arriving_with t d es p.1)

pub arriving_all : (t : ℕ) (fs ds : List Delayed) → are_in_order ds ≡ true → arriving t ds ++ arriving t fs ≡ arriving t (all_with fs ds)
arriving_all t [] ds o = append-nil (arriving t ds)
arriving_all t (f ∷ fs) ds o =
    rw (arriving_cons t f fs, ← append_assoc, ← arriving_with t f ds o) (arriving_all t fs (with_delayed f ds) (ordered_with f ds o))

-- ---- those that wait on

abbrev kept : Bool → Delayed → List Delayed → List Delayed
kept b d ds = if not b then d ∷ ds else ds

waiting_step : (b c g : Bool) (d e : Delayed) (xs es : List Delayed) → nat_le e.time d.time ≡ b → (b ≡ false → with_delayed d (kept g e es) ≡ d ∷ kept g e es)
    → xs ≡ (if c then es else with_delayed d es)
    → (if b then kept g e xs else kept c d (kept g e es)) ≡ (if c then kept g e es else with_delayed d (kept g e es))
waiting_step true true g d e xs es h k i = rw i refl
waiting_step true false true d e xs es h k i = i
waiting_step true false false d e xs es h k i = rw (h, i) refl
waiting_step false true g d e xs es h k i = refl
waiting_step false false g d e xs es h k i = sym (k refl)

waiting_parts : (t : ℕ) (b : Bool) (d e : Delayed) (xs es : List Delayed)
    → waiting_on t (if b then e ∷ xs else d ∷ e ∷ es) ≡ (if b then kept (e.time == t) e (waiting_on t xs) else kept (d.time == t) d (kept (e.time == t) e (waiting_on t es)))
waiting_parts t true d e xs es = refl
waiting_parts t false d e xs es = refl

one_left : (c : Bool) (d : Delayed) → kept c d [] ≡ (if c then [] else d ∷ [])
one_left true d = refl
one_left false d = refl

waiting_with : (t : ℕ) (d : Delayed) (ds : List Delayed) → are_in_order ds ≡ true
    → waiting_on t (with_delayed d ds) ≡ (if d.time == t then waiting_on t ds else with_delayed d (waiting_on t ds))
waiting_with t d [] o = one_left (d.time == t) d
waiting_with t d (e ∷ es) o =
    let p = and_parts (are_from e.time es) (are_in_order es) o in
    waiting_parts t (nat_le e.time d.time) d e (with_delayed d es) es
    ∙ waiting_step (nat_le e.time d.time) (d.time == t) (e.time == t) d e (waiting_on t (with_delayed d es)) (waiting_on t es) refl
    (λ b. before_all e.time d (waiting_on t (e ∷ es)) (less_from e.time d.time b) (from_waiting e.time t (e ∷ es) (from_first e es o)))
    (waiting_with t d es p.1)

all_choice : (c : Bool) (f : Delayed) (fs ds : List Delayed) → all_with (kept c f fs) ds ≡ all_with fs (if c then ds else with_delayed f ds)
all_choice true f fs ds = refl
all_choice false f fs ds = refl

pub waiting_all : (t : ℕ) (fs ds : List Delayed) → are_in_order ds ≡ true → all_with (waiting_on t fs) (waiting_on t ds) ≡ waiting_on t (all_with fs ds)
waiting_all t [] ds o = refl
waiting_all t (f ∷ fs) ds o =
    all_choice (f.time == t) f (waiting_on t fs) (waiting_on t ds)
    ∙ ap (λ (xs : List Delayed). all_with (waiting_on t fs) xs) (sym (waiting_with t f ds o))
    ∙ waiting_all t fs (with_delayed f ds) (ordered_with f ds o)

-- ---- none is earlier

from_back : (b : Bool) (t : ℕ) (d e : Delayed) (xs es : List Delayed) → (are_from t xs ≡ true → are_from t es ≡ true) → are_from t (if b then e ∷ xs else d ∷ e ∷ es) ≡ true
    → are_from t (e ∷ es) ≡ true
from_back true t d e xs es h f = let p = and_parts (nat_le t e.time) (are_from t xs) f in both _ _ p.0 (h p.1)
from_back false t d e xs es h f = let p = and_parts (nat_le t d.time) (are_from t (e ∷ es)) f in p.1

from_without : (t : ℕ) (d : Delayed) (ds : List Delayed) → are_from t (with_delayed d ds) ≡ true → are_from t ds ≡ true
from_without t d [] f = refl
from_without t d (e ∷ es) f = from_back (nat_le e.time d.time) t d e (with_delayed d es) es (from_without t d es) f

pub from_all : (t : ℕ) (fs ds : List Delayed) → are_from t (all_with fs ds) ≡ true → are_from t ds ≡ true
from_all t [] ds f = f
from_all t (g ∷ fs) ds f = from_without t g ds (from_all t fs (with_delayed g ds) f)

-- ---- those that came last, turned once

take_front : (n : ℕ) (ds : List Delayed) (d : Delayed) → n ≤ length ds → take n (ds ++ d ∷ []) ≡ take n ds
take_front n ds d h = take-append-le n ds (d ∷ []) h

drop_front : (n : ℕ) (ds : List Delayed) (d : Delayed) → n ≤ length ds → drop n (ds ++ d ∷ []) ≡ drop n ds ++ d ∷ []
drop_front zero ds d h = refl
drop_front (suc n) [] d h = absurd (omega arith)
drop_front (suc n) (x ∷ ds) d h = drop_front n ds d (omega arith)

-- what is left to be turned is told by n; us came before
pub turned_some : (t n : ℕ) (before after : List Delayed) (u : Update) (us : List Update) → Turns t before (Some u) after
    → ((us ++ u ∷ []) ++ arriving t (take n after) ≡ us ++ arriving t (take (suc n) before)) × (drop n after ++ waiting_on t (take n after) ≡ drop (suc n) before ++ waiting_on t (take (suc n) before))
turned_some t n before after u us a =
    (rw (a.1, a.2, append_assoc, a.3) refl, rw (a.1, a.2) refl)

pub turned_none : (t n : ℕ) (before after : List Delayed) (us : List Update) → Turns t before None after → suc n ≤ length before
    → (us ++ arriving t (take n after) ≡ us ++ arriving t (take (suc n) before)) × (drop n after ++ waiting_on t (take n after) ≡ drop (suc n) before ++ waiting_on t (take (suc n) before))
turned_none t n before after us a h =
    let l : n ≤ length a.1 = (let e = ap length a.2 in omega arith) in (
      rw (a.4, take_front n a.1 a.0 l, a.2, a.3) refl,
      rw (a.4, take_front n a.1 a.0 l, drop_front n a.1 a.0 l, append_assoc, a.2, a.3) refl,
    )

-- ---- the first of those that came last goes among the others

pub head_tail : (xs ys : List Delayed) (d : Delayed) → 0 < length xs → d ≡ slice_index_or xs 0 d → ys ≡ drop 1 xs → xs ≡ d ∷ ys
head_tail [] ys d h e f = absurd (omega arith)
head_tail (x ∷ xs) ys d h e f = let a : x ≡ d = sym e in let b : xs ≡ ys = sym f in cc

pub sort_same : (d : Delayed) (s : ℕ) (es after : List ((ℕ × ℕ) × Update)) (fs rest : List Delayed) → are_before s es ≡ true → after ≡ insert_entry by_both es (d.time, s) d.update
    → fs ≡ d ∷ rest → all_with rest (sorted_of after) ≡ all_with fs (sorted_of es)
sort_same d s es after fs rest h e f = rw (e, f, put_sorted d.time s d.update es h) refl
