-- Spans that are gone over by their first signals.
use Rattle.std.proofs.Common.{◌≡◌, ℕ, ◌+◌, ◌-◌, ◌≤◌, ◌<◌, max, min, Bool, true, false, ◌&&◌, ◌||◌, nat_le, nat_lt, List, [], ◌∷◌, ◌++◌, length, map, drop, get_or, All, Result, Ok, Err, IfOk, refl, sym, ap, subst, ◌∙◌, arith}
use Rattle.std.specs.Prelude.{IsPermutation}
use Rattle.std.specs.List.{filter, range_with_len}
use Rattle.std.specs.List.Sorted.{IsNonDecreasingBy}
use Rattle.std.proofs.lemmas.Bool.Decides.{nat_tests}
use Rattle.std.proofs.lemmas.List.{append_assoc, append-nil, drop_all, drop_more, get_or_default, get_or-drop, length-drop, map-append}
use Rattle.std.proofs.lemmas.List.Elements.{All-tail, filter-append}
use Rattle.std.proofs.lemmas.List.Sorted.{IsPermutation-map, list_any-IsPermutation}
use Rattle.gpi.specs.declared.design.Wake.{Wake}
use Rattle.v_flat.specs.Statements.{Span}
use Rattle.v_flat.specs.Design.{any_change, is_read}
use Rattle.v_loop.specs.declared.reads.span.Span as code
use Rattle.v_loop.specs.Reads.Reads.{span_of, spans_of}
use Rattle.v_loop.specs.Wakes.Wakes.{first_of, read_below, WaitForAll}
use Rattle.v_loop.proofs.WakesLemmas.Ranges.{range_split, filter_same, filter_all, filter_none}

-- ---- one span

unfoldable covers : Span → ℕ → Bool
covers x k = nat_le x.first k && nat_lt k (x.first + x.count)

below : (x : Span) (k : ℕ) → k < x.first → covers x k ≡ false
unfolding covers
below x k h = grind (arith, nat_tests, h)

inside : (x : Span) (k : ℕ) → x.first ≤ k → k < x.first + x.count → covers x k ≡ true
unfolding covers
inside x k h g = grind (arith, nat_tests, h, g)

behind : (x : Span) (k : ℕ) → x.first + x.count ≤ k → covers x k ≡ false
unfolding covers
behind x k h = grind (arith, nat_tests, h)

read_more : (x : Span) (xs : List Span) (k : ℕ) → is_read k (x ∷ xs) ≡ (covers x k || is_read k xs)
unfolding covers
read_more x xs k = refl

-- ---- spans whose first signals come later

unfoldable pub Later : ℕ → List code.Span → Type 0
Later f zs = All (λ z. f ≤ first_of z) zs

unread : (f k : ℕ) (zs : List code.Span) → Later f zs → k < f → is_read k (spans_of zs) ≡ false
unfolding Later
unread f k [] h g = refl
unread f k (z ∷ zs) h g =
    let head : f ≤ first_of z = h 0 z (omega arith) in
    let later : k < z.first = omega (arith, head, g) in
    read_more (span_of z) (spans_of zs) k
    ∙ ap (λ (b : Bool). b || is_read k (spans_of zs)) (below (span_of z) k later)
    ∙ unread f k zs (All-tail (λ z. f ≤ first_of z) z zs h) g

-- ---- one step: what is read from a number on, of the first span up to its end

unfoldable pub reads_from : List code.Span → ℕ → ℕ → List ℕ
reads_from zs a n = filter (λ k. is_read k (spans_of zs)) (range_with_len a n)

reads_split : (zs : List code.Span) (a m n : ℕ) → reads_from zs a (m + n) ≡ reads_from zs a m ++ reads_from zs (a + m) n
unfolding reads_from
reads_split zs a m n =
    ap (λ (ks : List ℕ). filter (λ k. is_read k (spans_of zs)) ks) (range_split a m n)
    ∙ filter-append (λ k. is_read k (spans_of zs)) (range_with_len a m) (range_with_len (a + m) n)

-- where the signals of a span begin that don't stand already, and where they end
module _ (z : code.Span) (zs : List code.Span) (next count f t : ℕ) (within : next ≤ count) (later : Later z.first zs)
    (from_is : f ≡ min (max z.first next) count) (to_is : t ≡ max (min (z.first + z.count) count) f) where
  before_span : reads_from (z ∷ zs) next (f - next) ≡ []
  unfolding reads_from
  before_span =
      filter_none (λ k. is_read k (spans_of (z ∷ zs))) next (f - next)
      (λ k a b. let l : k < z.first = omega (arith, within, from_is, a, b) in
      read_more (span_of z) (spans_of zs) k
      ∙ ap (λ (r : Bool). r || is_read k (spans_of zs)) (below (span_of z) k l)
      ∙ unread z.first k zs later l)

  in_span : reads_from (z ∷ zs) f (t - f) ≡ range_with_len f (t - f)
  unfolding reads_from
  in_span =
      filter_all (λ k. is_read k (spans_of (z ∷ zs))) f (t - f)
      (λ k a b. let l : z.first ≤ k = omega (arith, from_is, to_is, a, b) in
      let r : k < z.first + z.count = omega (arith, from_is, to_is, a, b) in
      read_more (span_of z) (spans_of zs) k ∙ ap (λ (r : Bool). r || is_read k (spans_of zs)) (inside (span_of z) k l r))

  behind_span : reads_from (z ∷ zs) t (count - t) ≡ reads_from zs t (count - t)
  unfolding reads_from
  behind_span =
      filter_same (λ k. is_read k (spans_of (z ∷ zs))) (λ k. is_read k (spans_of zs)) t (count - t)
      (λ k a b. let l : z.first + z.count ≤ k = omega (arith, to_is, a, b) in
      read_more (span_of z) (spans_of zs) k ∙ ap (λ (r : Bool). r || is_read k (spans_of zs)) (behind (span_of z) k l))

  pub ends_within : t ≤ count
  ends_within = omega (arith, from_is, to_is)

  pub one_step : reads_from (z ∷ zs) next (count - next) ≡ range_with_len f (t - f) ++ reads_from zs t (count - t)
  one_step =
      let up : next ≤ f = omega (arith, within, from_is) in
      let on : f ≤ t = omega (arith, to_is) in
      let end : t ≤ count = ends_within in
      let all : count - next ≡ (f - next) + ((t - f) + (count - t)) = omega (arith, up, on, end) in
      let at_f : next + (f - next) ≡ f = omega (arith, up) in
      let at_t : f + (t - f) ≡ t = omega (arith, on) in
      ap (λ (n : ℕ). reads_from (z ∷ zs) next n) all
      ∙ reads_split (z ∷ zs) next (f - next) ((t - f) + (count - t))
      ∙ ap (λ (ks : List ℕ). ks ++ reads_from (z ∷ zs) (next + (f - next)) ((t - f) + (count - t))) before_span
      ∙ ap (λ (a : ℕ). reads_from (z ∷ zs) a ((t - f) + (count - t))) at_f
      ∙ reads_split (z ∷ zs) f (t - f) (count - t)
      ∙ ap (λ (ks : List ℕ). ks ++ reads_from (z ∷ zs) (f + (t - f)) (count - t)) in_span
      ∙ ap (λ (a : ℕ). range_with_len f (t - f) ++ reads_from (z ∷ zs) a (count - t)) at_t
      ∙ ap (λ (ks : List ℕ). range_with_len f (t - f) ++ ks) behind_span

-- ---- the loop: the wakes that stand, and those of the spans that are left

unfoldable pub Sweeps : List code.Span → ℕ → ℕ → ℕ → List Wake → Type 0
Sweeps zs count i next ws =
    (ws ++ map any_change (reads_from (drop i zs) next (count - next)) ≡ map any_change (read_below (spans_of zs) count)) × (next ≤ count)

pub sweeps_none : (zs : List code.Span) (count : ℕ) → Sweeps zs count 0 0 []
unfolding Sweeps reads_from
sweeps_none zs count = (let e : count - 0 ≡ count = omega arith in ap (λ (n : ℕ). map any_change (reads_from zs 0 n)) e, omega arith)

later_ones : (zs : List code.Span) (i : ℕ) (z : code.Span) → IsNonDecreasingBy first_of zs → i < length zs → z ≡ get_or zs i z → Later z.first (drop (i + 1) zs)
unfolding Later
later_ones zs i z sorted h q k d l =
    let inside : i + 1 + k < length zs = (let e = length-drop (i + 1) zs in omega (arith, e, l, h)) in
    let up : first_of (get_or zs i d) ≤ first_of (get_or zs (i + 1 + k) d) = sorted i (i + 1 + k) d (omega arith) inside in
    let here : get_or zs i d ≡ z = get_or_default zs i d z h ∙ sym q in
    subst (λ (y : code.Span). z.first ≤ first_of y) (sym (get_or-drop (i + 1) zs k d)) (subst (λ (y : code.Span). first_of y ≤ first_of (get_or zs (i + 1 + k) d)) here up)

pub sweeps_more : (zs : List code.Span) (count i next f t : ℕ) (z : code.Span) (ws vs : List Wake) → IsNonDecreasingBy first_of zs → i < length zs → z ≡ get_or zs i z
    → f ≡ min (max z.first next) count → t ≡ max (min (z.first + z.count) count) f → vs ≡ ws ++ map any_change (range_with_len f (t - f)) → Sweeps zs count i next ws
    → Sweeps zs count (i + 1) t vs
unfolding Sweeps
sweeps_more zs count i next f t z ws vs sorted h q from_is to_is made (so_far, within) =
    let later = later_ones zs i z sorted h q in
    let rest = drop (i + 1) zs in
    let here : drop i zs ≡ z ∷ rest = drop_more zs i z h ∙ ap (λ (y : code.Span). y ∷ rest) (sym q) in
    let left = reads_from rest t (count - t) in (
      ap (λ (xs : List Wake). xs ++ map any_change left) made
          ∙ append_assoc ws (map any_change (range_with_len f (t - f))) (map any_change left)
          ∙ ap (λ (xs : List Wake). ws ++ xs) (sym (map-append any_change (range_with_len f (t - f)) left))
          ∙ ap (λ (ks : List ℕ). ws ++ map any_change ks) (sym (one_step z rest next count f t within later from_is to_is))
          ∙ ap (λ (ys : List code.Span). ws ++ map any_change (reads_from ys next (count - next))) (sym here)
          ∙ so_far,
      ends_within z rest next count f t within later from_is to_is,
    )

pub sweeps_all : (zs : List code.Span) (count i next : ℕ) (ws : List Wake) → length zs ≤ i → Sweeps zs count i next ws → ws ≡ map any_change (read_below (spans_of zs) count)
unfolding Sweeps reads_from
sweeps_all zs count i next ws h (so_far, within) =
    sym (append-nil ws)
    ∙ ap (λ (ks : List ℕ). ws ++ map any_change ks) (sym (filter_none (λ k. is_read k (spans_of (drop i zs))) next (count - next) (λ k a b.
    ap (λ (ys : List code.Span). is_read k (spans_of ys)) (drop_all i zs h))))
    ∙ so_far

-- ---- the order of spans doesn't matter

reads_alike : (xs ys : List code.Span) → IsPermutation xs ys → (n : ℕ) → is_read n (spans_of ys) ≡ is_read n (spans_of xs)
reads_alike xs ys h n = sym (list_any-IsPermutation (λ x. nat_le x.first n && nat_lt n (x.first + x.count)) (spans_of xs) (spans_of ys) (IsPermutation-map span_of xs ys h))

pub waits_sorted : (xs ys : List code.Span) (count : ℕ) (ws : List Wake) → IsPermutation xs ys → ws ≡ map any_change (read_below (spans_of ys) count) → WaitForAll (spans_of xs) count ws
waits_sorted xs ys count ws h e d l =
    e
    ∙ ap (λ (p : ℕ → Bool). map any_change (filter p (range_with_len 0 count))) (λ i n. reads_alike xs ys h n i)
    ∙ ap (λ (c : ℕ). map any_change (filter (λ n. is_read n (spans_of xs)) (range_with_len 0 c))) (sym l)

pub waits_result : {E : Type 0} (xs ys zs : List code.Span) (count : ℕ) (r : Result (List Wake) E) → IsPermutation xs zs → ys ≡ zs
    → IfOk r (λ ws. ws ≡ map any_change (read_below (spans_of ys) count)) → IfOk r (WaitForAll (spans_of xs) count)
waits_result xs ys zs count (Ok ws) h e made = waits_sorted xs ys count ws (subst (λ (q : List code.Span). IsPermutation xs q) (sym e) h) made
waits_result xs ys zs count (Err n) h e made = tt
