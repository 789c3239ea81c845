-- The changes of the touched signals are those between the maps.
use Rattle.std.proofs.Common.{◌≡◌, ℕ, zero, suc, ◌+◌, ◌<◌, ◌≤◌, ◌==◌, ◌&&◌, ◌||◌, Bool, true, false, not, if◌then◌else◌, List, [], ◌∷◌, ◌++◌, length, map, drop, get_or, slice_index_or, slice_get, Option, None, Some, drop-cons, append_assoc, append-nil, refl, sym, ap, arith, ◌∙◌, zero-add, add-one}
use Rattle.std.proofs.lemmas.Bool.Decides.{nat_tests}
use Rattle.std.proofs.lemmas.List.{drop_all}
use Rattle.std.specs.List.{All}
use Rattle.std.specs.List.Sorted.{IsPermutation, IsNonDecreasing, IsNonDecreasingBy}
use Rattle.std.proofs.lemmas.List.Sorted.{IsPermutation-map, All-permutation}
use Rattle.std.proofs.lemmas.List.Elements.{All-nil, All-cons, All-head, All-tail}
use Rattle.four_value.specs.declared.Digit.{Digit}
use Rattle.four_value.specs.Vector.{same_digits}
use Rattle.gpi.specs.declared.types.Report.{Report}
use Rattle.gpi.specs.Activation.{Map}
use Rattle.gpi.specs.Keys.{holds}
use Rattle.gpi.specs.State.{changes}
use Rattle.v_exec.specs.declared.workspace.Touched.{Touched}
use Rattle.v_exec.specs.Workspace.{sigs_of, AreEarlier, AreTouched}
use Rattle.kernel_base.specs.Lists.{AreBelow, AreDistinct}
use Rattle.fast_kernel.specs.Changes.{told, differs, change_at}
use Rattle.fast_kernel.specs.Waiters.{picked}
use Rattle.fast_kernel.proofs.Picked.{rising_is_picked, rises, still_distinct, still_below, still_holds}
use Rattle.kernel_base.proofs.Lists.{short}
use Rattle.kernel_base.proofs.Same.{same_self}

-- ---- one more touched signal

pub found_at : (m : Map) (s : ℕ) (ds : List Digit) → s < length m → ds ≡ get_or m s ds → ds ≡ slice_index_or m s []
found_at [] s ds h e = absurd (omega arith)
found_at (x ∷ m) zero ds h e = e
found_at (x ∷ m) (suc s) ds h e = found_at m s ds (omega arith) e

told_if : (t : Bool) (r : Report) (rs : List Report) → (if t then rs else r ∷ rs) ≡ (if t then [] else r ∷ []) ++ rs
told_if true r rs = refl
told_if false r rs = refl

pub told_more : (after : Map) (ts : List Touched) (n : ℕ) (t : Touched) (front more : List Report) → n < length ts → t ≡ get_or ts n t
    → more ≡ front ++ told after (t ∷ []) → more ++ told after (drop (n + 1) ts) ≡ front ++ told after (drop n ts)
told_more after ts n t front more h e f =
    rw (f, append_assoc, drop-cons ts n t h, add-one, ← e)
    (ap (λ (rs : List Report). front ++ rs)
    (sym (told_if (same_digits t.before (slice_index_or after t.sig.0 [])) (record { sig = t.sig; before = t.before; after = slice_index_or after t.sig.0 [] }) (told after (drop (suc n) ts)))))

pub told_same : (after : Map) (t : Touched) (front : List Report) (same : Bool) (bits : List Digit) → t.sig.0 < length after
    → bits ≡ get_or after t.sig.0 bits → same ≡ same_digits t.before bits → same ≡ true → front ≡ front ++ told after (t ∷ [])
told_same after t front same bits h b s f = let e = found_at after t.sig.0 bits h b in rw (← e, ← s, f, append-nil) refl

pub told_changed : (after : Map) (t : Touched) (front : List Report) (same : Bool) (bits : List Digit) → t.sig.0 < length after
    → bits ≡ get_or after t.sig.0 bits → same ≡ same_digits t.before bits → same ≡ false
    → front ++ record { sig = t.sig; before = t.before; after = bits } ∷ [] ≡ front ++ told after (t ∷ [])
told_changed after t front same bits h b s f = let e = found_at after t.sig.0 bits h b in rw (← e, ← s, f) refl

length_sigs : (ts : List Touched) → length (sigs_of ts) ≡ length ts
length_sigs [] = refl
length_sigs (t ∷ ts) = rw (length_sigs ts) refl

-- there are at most as many touched signals as signals
pub few_touched : (n : ℕ) (ts : List Touched) → AreDistinct (sigs_of ts) → AreBelow n (sigs_of ts) → length ts ≤ n
few_touched n ts d b = rw (← length_sigs ts) (short n (sigs_of ts) d b)

-- a touched signal is one of the design
pub touched_inside : (n : ℕ) (ts : List Touched) (k : ℕ) (t : Touched) → AreBelow n (sigs_of ts) → k < length ts → t ≡ get_or ts k t → t.sig.0 < n
touched_inside n [] k t b h e = absurd (omega arith)
touched_inside n (x ∷ ts) zero t b h e = let f : t.sig.0 ≡ x.sig.0 = ap (λ (y : Touched). y.sig.0) e in rw f b.0
touched_inside n (x ∷ ts) (suc k) t b h e = touched_inside n ts k t b.1 (omega arith) e

-- ---- the changes between two maps, as a list of numbers

nothing : (n : ℕ) (m : Map) → length m ≤ n → drop n m ≡ []
nothing n m h = drop_all n m h

drop_first : (n : ℕ) (m : Map) → n < length m → drop n m ≡ slice_index_or m n [] ∷ drop (suc n) m
drop_first n [] h = absurd (omega arith)
drop_first zero (x ∷ m) h = refl
drop_first (suc n) (x ∷ m) h = drop_first n m (omega arith)

same_place : (m n : ℕ) → (m == n) ≡ true → m ≡ n
same_place m n h = grind (arith, nat_tests)

changes_step : (t : Bool) (r : Report) (rs xs : List Report) (n k : ℕ) → (r ∷ rs) ≡ (r ∷ xs) → rs ≡ xs → (if t then rs else r ∷ rs) ≡ (if not t then r ∷ xs else xs)
changes_step true r rs xs n k h g = g
changes_step false r rs xs n k h g = h

map_if : (t : Bool) (f : ℕ → Report) (n : ℕ) (ns : List ℕ) → map f (if t then n ∷ ns else ns) ≡ (if t then f n ∷ map f ns else map f ns)
map_if true f n ns = refl
map_if false f n ns = refl

pub changes_picked : (k n : ℕ) (before after : Map) → n + k ≡ length before → length after ≡ length before
    → changes n (drop n before) (drop n after) ≡ map (change_at before after) (picked n k (differs before after))
changes_picked zero n before after e l = rw (nothing n before (omega arith)) refl
changes_picked (suc k) n before after e l =
    let rest : changes (suc n) (drop (suc n) before) (drop (suc n) after) ≡ map (change_at before after) (picked (suc n) k (differs before after)) =
    changes_picked k (suc n) before after (omega arith) l in
    rw (
      drop_first n before (omega arith),
      drop_first n after (omega arith),
      map_if (differs before after n) (change_at before after) n (picked (suc n) k (differs before after)),
    )
    (changes_step (same_digits (slice_index_or before n []) (slice_index_or after n [])) (change_at before after n) _ _ n k (ap (λ (rs : List Report). change_at before after n ∷ rs) rest) rest)

-- ---- what is told

abbrev or_nothing : Option (List Digit) → List Digit
or_nothing None = []
or_nothing (Some ds) = ds

read_or : (m : Map) (s : ℕ) → slice_index_or m s [] ≡ or_nothing (slice_get m s)
read_or [] s = refl
read_or (x ∷ m) zero = refl
read_or (x ∷ m) (suc s) = read_or m s

read_at : (m : Map) (s : ℕ) (ds : List Digit) → slice_get m s ≡ Some ds → slice_index_or m s [] ≡ ds
read_at [] s ds h = absurd (cc)
read_at (x ∷ m) zero ds h = let e : x ≡ ds = cc in e
read_at (x ∷ m) (suc s) ds h = read_at m s ds h

is_change : (before after : Map) (t : Touched) → slice_get before t.sig.0 ≡ Some t.before
    → record { sig = t.sig; before = t.before; after = slice_index_or after t.sig.0 [] } ≡ change_at before after t.sig.0
is_change before after t h = rw (read_at before t.sig.0 t.before h) refl

-- the numbers of the changed signals
abbrev places : List Report → List ℕ
places rs = map (λ r. r.sig.0) rs

-- a change is that between the maps
abbrev IsChange : Map → Map → Report → Type 0
IsChange before after r = r ≡ change_at before after r.sig.0

all_step : (before after : Map) (t : Bool) (r : Report) (rs : List Report) → IsChange before after r → All (IsChange before after) rs
    → All (IsChange before after) (if t then rs else r ∷ rs)
all_step before after true r rs h k = k
all_step before after false r rs h k = All-cons (IsChange before after) r rs h k

told_all : (before after : Map) (ts : List Touched) → AreEarlier before ts → All (IsChange before after) (told after ts)
told_all before after [] h = All-nil (IsChange before after)
told_all before after (t ∷ ts) h =
    all_step before after (same_digits t.before (slice_index_or after t.sig.0 [])) (record { sig = t.sig; before = t.before; after = slice_index_or after t.sig.0 [] }) (told after ts)
    (is_change before after t h.0) (told_all before after ts h.2)

cons_same : (r s : Report) (rs ss : List Report) → r ≡ s → rs ≡ ss → r ∷ rs ≡ s ∷ ss
cons_same r s rs ss e f = cc

and_no : (b : Bool) → (b && false) ≡ false
and_no true = refl
and_no false = refl

and_yes : (b : Bool) → (b && true) ≡ b
and_yes true = refl
and_yes false = refl

at_test : (t a b : Bool) → (t ≡ true → a ≡ b) → (t && a) ≡ (t && b)
at_test true a b h = h refl
at_test false a b h = refl

and_or : (p a b : Bool) → ((p && b) || (a && b)) ≡ ((p || a) && b)
and_or true true true = refl
and_or true true false = refl
and_or true false true = refl
and_or true false false = refl
and_or false a b = refl

by_touch : (t d : Bool) → (t ≡ false → d ≡ false) → (t && d) ≡ d
by_touch true d h = refl
by_touch false d h = sym (h refl)

read_same : (a b : Map) (s : ℕ) → slice_get a s ≡ slice_get b s → slice_index_or a s [] ≡ slice_index_or b s []
read_same a b s e = rw (read_or a s, read_or b s, e) refl

once_step : (t : Bool) (r : Report) (rs : List Report) → holds r.sig.0 (places rs) ≡ false → AreDistinct (places rs) → AreDistinct (places (if t then rs else r ∷ rs))
once_step true r rs h d = d
once_step false r rs h d = (h, d)

below_step : (n : ℕ) (t : Bool) (r : Report) (rs : List Report) → r.sig.0 < n → AreBelow n (places rs) → AreBelow n (places (if t then rs else r ∷ rs))
below_step n true r rs h d = d
below_step n false r rs h d = (h, d)

got_inside : (m : Map) (s : ℕ) (ds : List Digit) → slice_get m s ≡ Some ds → s < length m
got_inside [] s ds h = absurd (cc)
got_inside (x ∷ m) zero ds h = omega arith
got_inside (x ∷ m) (suc s) ds h = let k = got_inside m s ds h in omega arith

-- a list of such changes is told by its places
by_places : (before after : Map) (rs : List Report) → All (IsChange before after) rs → rs ≡ map (change_at before after) (places rs)
by_places before after [] h = refl
by_places before after (r ∷ rs) h =
    let first = All-head (IsChange before after) r rs h in
    let rest = by_places before after rs (All-tail (IsChange before after) r rs h) in
    cons_same r (change_at before after r.sig.0) rs (map (change_at before after) (places rs)) first rest

place_step : (t : Bool) (s : ℕ) (r : Report) (rs : List Report) → holds s (places (if t then rs else r ∷ rs)) ≡ (((s == r.sig.0) && not t) || holds s (places rs))
place_step true s r rs = rw (and_no (s == r.sig.0)) refl
place_step false s r rs = rw (and_yes (s == r.sig.0)) refl

at_place : (s n : ℕ) (a b : Bool) → (s ≡ n → a ≡ b) → ((s == n) && a) ≡ ((s == n) && b)
at_place s n a b h = at_test (s == n) a b (λ t. h (same_place s n t))

-- a touched signal is told where it shows something else
told_holds : (before after : Map) (ts : List Touched) (s : ℕ) → AreEarlier before ts
    → holds s (places (told after ts)) ≡ (holds s (sigs_of ts) && differs before after s)
told_holds before after [] s h = refl
told_holds before after (t ∷ ts) s h =
    let same = same_digits t.before (slice_index_or after t.sig.0 []) in
    let here : ((s == t.sig.0) && not same) ≡ ((s == t.sig.0) && differs before after s) =
    at_place s t.sig.0 (not same) (differs before after s) (λ e. rw (e, read_at before t.sig.0 t.before h.0) refl) in
    rw (
      place_step same s (record { sig = t.sig; before = t.before; after = slice_index_or after t.sig.0 [] }) (told after ts),
      here,
      told_holds before after ts s h.2,
    )
    (and_or (s == t.sig.0) (holds s (sigs_of ts)) (differs before after s))

-- what isn't touched shows the same
untouched : (before after : Map) (s : ℕ) → s < length before → slice_get after s ≡ slice_get before s → differs before after s ≡ false
untouched before after s h e =
    rw (read_same after before s e, same_self (slice_index_or before s [])) refl

pub told_differs : (before after : Map) (ts : List Touched) (s : ℕ) → s < length before → AreTouched before after ts → holds s (places (told after ts)) ≡ differs before after s
told_differs before after ts s h t =
    told_holds before after ts s t.earlier ∙ by_touch (holds s (sigs_of ts)) (differs before after s) (λ f. untouched before after s h (t.others s f))

-- told once
told_once : (before after : Map) (ts : List Touched) → AreEarlier before ts → AreDistinct (places (told after ts))
told_once before after [] h = tt
told_once before after (t ∷ ts) h =
    once_step (same_digits t.before (slice_index_or after t.sig.0 [])) (record { sig = t.sig; before = t.before; after = slice_index_or after t.sig.0 [] }) (told after ts)
    (rw (told_holds before after ts t.sig.0 h.2, h.1) refl) (told_once before after ts h.2)

told_below : (before after : Map) (ts : List Touched) → AreEarlier before ts → AreBelow (length before) (places (told after ts))
told_below before after [] h = tt
told_below before after (t ∷ ts) h =
    below_step (length before) (same_digits t.before (slice_index_or after t.sig.0 [])) (record { sig = t.sig; before = t.before; after = slice_index_or after t.sig.0 [] }) (told after ts)
    (got_inside before t.sig.0 t.before h.0) (told_below before after ts h.2)

-- ---- in order

get_place : (rs : List Report) (k d : ℕ) (r : Report) → k < length rs → slice_index_or (places rs) k d ≡ (slice_index_or rs k r).sig.0
get_place [] k d r h = absurd (omega arith)
get_place (x ∷ rs) zero d r h = refl
get_place (x ∷ rs) (suc k) d r h = get_place rs k d r (omega arith)

length_places : (rs : List Report) → length (places rs) ≡ length rs
length_places [] = refl
length_places (r ∷ rs) = rw (length_places rs) refl

no_report : Report
no_report = record { sig = record { 0 = 0 }; before = []; after = [] }

pub places_rise : (rs : List Report) → IsNonDecreasingBy (λ r. r.sig.0) rs → IsNonDecreasing (places rs)
places_rise rs m = λ i j d h k.
    let l : j < length rs = rw (← length_places rs) k in
    rw (get_place rs i d no_report (omega arith), get_place rs j d no_report l) (m i j no_report h l)

-- the told changes, put in order, are those between the maps
pub ordered_changes : (before after : Map) (ts : List Touched) (rs : List Report) → length after ≡ length before → AreTouched before after ts
    → IsPermutation (told after ts) rs → IsNonDecreasingBy (λ r. r.sig.0) rs → rs ≡ changes 0 before after
ordered_changes before after ts rs l t p m =
    let front = told after ts in
    let moved : IsPermutation (places front) (places rs) = IsPermutation-map (λ r. r.sig.0) front rs p in
    let all : All (IsChange before after) rs = All-permutation (IsChange before after) front rs p (told_all before after ts t.earlier) in
    let distinct = still_distinct (places front) (places rs) moved (told_once before after ts t.earlier) in
    let below = still_below (length before) (places front) (places rs) moved (told_below before after ts t.earlier) in
    let is : places rs ≡ picked 0 (length before) (differs before after) =
    rising_is_picked (length before) 0 (places rs) (differs before after) (rises (places rs) (places_rise rs m) distinct) (rw zero-add below)
    (λ q g h. still_holds (places front) (places rs) moved q ∙ told_differs before after ts q (omega arith) t) in
    by_places before after rs all ∙ ap (map (change_at before after)) is ∙ sym (changes_picked (length before) 0 before after (zero-add (length before)) l)
