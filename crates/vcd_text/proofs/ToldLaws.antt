-- The change that a line of a traced run tells: by its parts, and by the first signal that has its path.
use Rattle.std.specs.Prelude.{◌≡◌, ◌≢◌, ◌⊎◌, ◌<◌, ◌≤◌, ◌==◌, ℕ, zero, suc, ◌+◌, not, cond, Bool, true, false, List, ◌∷◌, length, Option, None, Some, find, slice_get, leb, refl}
use Rattle.std.specs.List.{filter, range_with_len}
use Rattle.std.proofs.Common.{ap, sym, subst, ◌∙◌, arith, inl, inr}
use Rattle.std.proofs.lemmas.Bool.{true≢false}
use Rattle.std.proofs.lemmas.Bool.Decides.{eqb_tells, leb_tells}
use Rattle.std.proofs.lemmas.Option.{slice_get_within}
use Rattle.std.proofs.lemmas.Slice.Eq.{bytes_eq-Decides}
use Rattle.gpi.specs.declared.design.Signal.{Signal}
use Rattle.gpi.specs.declared.design.Flat.{Flat}
use Rattle.vcd_text.specs.Hierarchy.{is_word, traced_signals}
use Rattle.vcd_text.specs.Changes.{ValueChange}
use Rattle.vcd_text.specs.TracedLines.{HasPath, TellsChange, TellsNone, traced_line}
use Rattle.vcd_text.specs.Splits.{HasParts}
use Rattle.vcd_text.specs.Paths.{is_path, has_path, is_wide}
use Rattle.vcd_text.proofs.SplitLaws.{decimal_no_blank, parts_once}

-- ---- the first of numbers

-- of a and what stands behind it
from_next : {P : Type 0} (a m : ℕ) → ((eqb_is : (m == a) ≡ true) → m ≡ a → P) → (a < m → P) → (((m == a) ≡ true) × (m ≡ a)) ⊎ (((m == a) ≡ false) × (m ≢ a)) → a ≤ m → P
from_next a m same more (inl h) le = same h.0 h.1
from_next a m same more (inr h) le = more (let n = h.1 in omega (arith, n))

-- what is found among these numbers is the first of them that passes
record IsFirst (p q : ℕ → Bool) (a n k : ℕ) : Type 0 where
  least : a ≤ k
  below : k < a + n
  passes : p k ≡ true
  kept : q k ≡ true
  first : (m : ℕ) → a ≤ m → m < k → q m ≡ true → p m ≡ true → ⊥

module _ (p q : ℕ → Bool) where
  found_here : (a n k : ℕ) → p a ≡ true → q a ≡ true → a ≡ k → IsFirst p q a (suc n) k
  found_here a n k passes kept e = record {
    least = omega (arith, e);
    below = omega (arith, e);
    passes = subst (λ (m : ℕ). p m ≡ true) e passes;
    kept = subst (λ (m : ℕ). q m ≡ true) e kept;
    first = λ m least below _ _. absurd (omega (arith, e, least, below));
  }

  found_later : (a n k : ℕ) → (q a ≡ true → p a ≡ true → ⊥) → IsFirst p q (a + 1) n k → IsFirst p q a (suc n) k
  found_later a n k other f = record {
    least = let l = f.least in omega (arith, l);
    below = let b = f.below in omega (arith, b);
    passes = f.passes;
    kept = f.kept;
    first = λ m least below kept passes.
        from_next a m
        (λ _ same. other (subst (λ (x : ℕ). q x ≡ true) same kept) (subst (λ (x : ℕ). p x ≡ true) same passes))
        (λ more. f.first m (omega (arith, more)) below kept passes) (eqb_tells m a) least;
  }

  found_by : (a n k : ℕ) (u v : Bool) → q a ≡ u → p a ≡ v → (find p (filter q (range_with_len (a + 1) n)) ≡ Some k → IsFirst p q (a + 1) n k)
      → find p (cond u (a ∷ filter q (range_with_len (a + 1) n)) (filter q (range_with_len (a + 1) n))) ≡ Some k → IsFirst p q a (suc n) k
  found_by a n k true true e f more h =
      let s : Some a ≡ Some k = subst (λ (b : Bool). cond b (Some a) (find p (filter q (range_with_len (a + 1) n))) ≡ Some k) f h in
      let same : a ≡ k = cc in found_here a n k f e same
  found_by a n k true false e f more h =
      found_later a n k (λ _ passes. true≢false (sym passes ∙ f))
      (more (subst (λ (b : Bool). cond b (Some a) (find p (filter q (range_with_len (a + 1) n))) ≡ Some k) f h))
  found_by a n k false v e f more h = found_later a n k (λ kept _. true≢false (sym kept ∙ e)) (more h)

  found_first : (a n k : ℕ) → find p (filter q (range_with_len a n)) ≡ Some k → IsFirst p q a n k
  found_first a zero k h = absurd (cc)
  found_first a (suc n) k h =
      found_by a n k (q a) (p a) refl refl (found_first (a + 1) n k) h

  none_by : (a n m : ℕ) (u v : Bool) → q a ≡ u → p a ≡ v
      → (find p (filter q (range_with_len (a + 1) n)) ≡ None → a < m → ⊥)
      → find p (cond u (a ∷ filter q (range_with_len (a + 1) n)) (filter q (range_with_len (a + 1) n))) ≡ None → a ≤ m → q m ≡ true → p m ≡ true → ⊥
  none_by a n m true true e f more h least kept passes =
      let s : Some a ≡ None = subst (λ (b : Bool). cond b (Some a) (find p (filter q (range_with_len (a + 1) n))) ≡ None) f h in absurd (cc)
  none_by a n m true false e f more h least kept passes =
      let rest : find p (filter q (range_with_len (a + 1) n)) ≡ None = subst (λ (b : Bool). cond b (Some a) (find p (filter q (range_with_len (a + 1) n))) ≡ None) f h in
      from_next a m (λ _ same. true≢false (sym (subst (λ (x : ℕ). p x ≡ true) same passes) ∙ f)) (more rest) (eqb_tells m a) least
  none_by a n m false v e f more h least kept passes =
      from_next a m (λ _ same. true≢false (sym (subst (λ (x : ℕ). q x ≡ true) same kept) ∙ e)) (more h) (eqb_tells m a) least

  none_found : (a n m : ℕ) → find p (filter q (range_with_len a n)) ≡ None → a ≤ m → m < a + n → q m ≡ true → p m ≡ true → ⊥
  none_found a zero m h least below kept passes = absurd (omega (arith, least, below))
  none_found a (suc n) m h least below kept passes =
      none_by a n m (q a) (p a) refl refl (λ rest more. none_found (a + 1) n m rest (omega (arith, more)) (omega (arith, below)) kept passes) h least kept passes

-- ---- the first signal of a path

not_true : (b : Bool) → not b ≡ true → b ≡ false
not_true true h = absurd (true≢false (sym h))
not_true false h = refl

path_in : (flat : Flat) (path : List ℕ) (n : ℕ) (o : Option Signal) → slice_get flat.signals n ≡ o → is_path o path ≡ true → not (is_word flat.nodes n) ≡ true → HasPath flat n path
path_in flat path n None there h traced = absurd (true≢false (sym h))
path_in flat path n (Some signal) there h traced =
    record { signal = signal; there = there; traced = not_true (is_word flat.nodes n) traced; path_is = sym ((bytes_eq-Decides path signal.path).0 h) }

path_passes : (flat : Flat) (path : List ℕ) (n : ℕ) → HasPath flat n path → has_path flat.signals path n ≡ true
path_passes flat path n h = ap (λ (o : Option Signal). is_path o path) h.there ∙ (bytes_eq-Decides path h.signal.path).1 (sym h.path_is)

path_kept : (flat : Flat) (path : List ℕ) (n : ℕ) → HasPath flat n path → not (is_word flat.nodes n) ≡ true
path_kept flat path n h = ap not h.traced

path_within : (flat : Flat) (path : List ℕ) (n : ℕ) → HasPath flat n path → n < 0 + length flat.signals
path_within flat path n h = let w = slice_get_within flat.signals n h.signal h.there in omega (arith, w)

-- the one that is found
record IsFirstPath (flat : Flat) (path : List ℕ) (n : ℕ) : Type 0 where
  has : HasPath flat n path
  first : (other : ℕ) → other < n → HasPath flat other path → ⊥

first_path : (flat : Flat) (path : List ℕ) (n : ℕ) → find (has_path flat.signals path) (traced_signals flat) ≡ Some n → IsFirstPath flat path n
first_path flat path n h = record {
  has = path_in flat path n (slice_get flat.signals n) refl f.passes f.kept;
  first = λ other below other_has. f.first other (omega arith) below (path_kept flat path other other_has) (path_passes flat path other other_has);
}
  where
    f : IsFirst (has_path flat.signals path) (λ signal. not (is_word flat.nodes signal)) 0 (length flat.signals) n
    f = found_first (has_path flat.signals path) (λ signal. not (is_word flat.nodes signal)) 0 (length flat.signals) n h

no_path : (flat : Flat) (path : List ℕ) → find (has_path flat.signals path) (traced_signals flat) ≡ None → (n : ℕ) → HasPath flat n path → ⊥
no_path flat path h n has =
    none_found (has_path flat.signals path) (λ signal. not (is_word flat.nodes signal)) 0 (length flat.signals) n h (omega arith) (path_within flat path n has)
    (path_kept flat path n has) (path_passes flat path n has)

which : {P : Type 0} (m n : ℕ) → (m < n → P) → (n < m → P) → (m ≡ n → P) → (((m == n) ≡ true) × (m ≡ n)) ⊎ (((m == n) ≡ false) × (m ≢ n)) → P
which m n below above same (inl h) = same h.1
which {P} m n below above same (inr h) = by_order (leb_tells n m)
  where
    by_order : ((leb n m ≡ true) × (n ≤ m)) ⊎ ((leb n m ≡ false) × (m < n)) → P
    by_order (inl l) = above (let d = h.1 in let k = l.1 in omega (arith, d, k))
    by_order (inr l) = below l.1

some_same : (a b : Signal) → Some a ≡ Some b → a ≡ b
some_same a b h = cc

one_first : (flat : Flat) (path : List ℕ) (m n : ℕ) → IsFirstPath flat path m → IsFirstPath flat path n → m ≡ n
one_first flat path m n a b = which m n (λ l. absurd (b.first m l a.has)) (λ l. absurd (a.first n l b.has)) (λ e. e) (eqb_tells m n)

-- ---- what a line tells

parts_told : (flat : Flat) (text : List ℕ) (change : ValueChange) (tells : TellsChange flat text change) → HasParts text change.time tells.is.signal.path change.digits
parts_told flat text change tells = record {
  split = record { spelled = tells.spelled; time_is = decimal_no_blank change.time tells.is.time; digits_are = tells.is.digits };
  below = tells.is.time;
}

has_told : (flat : Flat) (text : List ℕ) (change : ValueChange) (tells : TellsChange flat text change) → HasPath flat change.signal tells.is.signal.path
has_told flat text change tells = record { signal = tells.is.signal; there = tells.is.there; traced = tells.is.traced; path_is = refl }

-- a line without parts tells nothing
pub no_parts_told : (flat : Flat) (text : List ℕ) → ((time : ℕ) (path digits : List ℕ) → HasParts text time path digits → ⊥) → TellsNone flat text
no_parts_told flat text none change tells = none change.time tells.is.signal.path change.digits (parts_told flat text change tells)

module _ (flat : Flat) (text : List ℕ) (time : ℕ) (path digits : List ℕ) (parts : HasParts text time path digits) where
  same_parts : (change : ValueChange) (tells : TellsChange flat text change) → (time ≡ change.time) × (path ≡ tells.is.signal.path) × (digits ≡ change.digits)
  same_parts change tells = parts_once text time path digits change.time tells.is.signal.path change.digits parts (parts_told flat text change tells)

  told_path : (change : ValueChange) (tells : TellsChange flat text change) → IsFirstPath flat path change.signal
  told_path change tells =
      let p = (same_parts change tells).1 in
      subst (λ (l : List ℕ). IsFirstPath flat l change.signal) (sym p) (record { has = has_told flat text change tells; first = tells.first })

  -- so does one of which no signal has the path
  pub no_path_told : find (has_path flat.signals path) (traced_signals flat) ≡ None → TellsNone flat text
  no_path_told none change tells = no_path flat path none change.signal (told_path change tells).has

  module _ (n : ℕ) (found : find (has_path flat.signals path) (traced_signals flat) ≡ Some n) where
    told_signal : (change : ValueChange) (tells : TellsChange flat text change) → change.signal ≡ n
    told_signal change tells = one_first flat path change.signal n (told_path change tells) (first_path flat path n found)

    told_width : (change : ValueChange) (tells : TellsChange flat text change) → is_wide (slice_get flat.signals n) (length digits) ≡ true
    told_width change tells =
        let same = same_parts change tells in
        ap (λ (m : ℕ). is_wide (slice_get flat.signals m) (length digits)) (sym (told_signal change tells))
        ∙ (ap (λ (o : Option Signal). is_wide o (length digits)) tells.is.there
        ∙ wide_is tells.is.signal (length digits) (sym tells.is.width ∙ ap length (sym same.2)) (eqb_tells tells.is.signal.width (length digits)))
      where
        wide_is : (signal : Signal) (w : ℕ) → signal.width ≡ w → (((signal.width == w) ≡ true) × (signal.width ≡ w)) ⊎ (((signal.width == w) ≡ false) × (signal.width ≢ w)) → (signal.width == w) ≡ true
        wide_is signal w e (inl h) = h.0
        wide_is signal w e (inr h) = absurd (h.1 e)

    -- and one whose digits are too many or too few
    pub no_width_told : is_wide (slice_get flat.signals n) (length digits) ≡ false → TellsNone flat text
    no_width_told other change tells = true≢false (sym (told_width change tells) ∙ other)

    width_from : (o : Option Signal) → slice_get flat.signals n ≡ o → is_wide o (length digits) ≡ true
        → (signal : Signal) × (slice_get flat.signals n ≡ Some signal) × (signal.width ≡ length digits)
    width_from None there h = absurd (true≢false (sym h))
    width_from (Some signal) there h = (signal, there, wide_from (eqb_tells signal.width (length digits)))
      where
        wide_from : (((signal.width == length digits) ≡ true) × (signal.width ≡ length digits)) ⊎ (((signal.width == length digits) ≡ false) × (signal.width ≢ length digits)) → signal.width ≡ length digits
        wide_from (inl k) = k.1
        wide_from (inr k) = absurd (true≢false (sym h ∙ k.0))

    -- the others tell this change
    pub change_told : is_wide (slice_get flat.signals n) (length digits) ≡ true → TellsChange flat text (record { time = time; signal = n; digits = digits })
    change_told wide = record {
      is = record {
        time = parts.below;
        signal = w.0;
        there = w.1;
        traced = f.has.traced;
        width = sym w.2;
        digits = parts.split.digits_are;
      };
      first = λ other below has. f.first other below (subst (λ (l : List ℕ). HasPath flat other l) path_same has);
      spelled = parts.split.spelled ∙ ap (λ (l : List ℕ). traced_line time l digits) (sym path_same);
    }
      where
        w : (signal : Signal) × (slice_get flat.signals n ≡ Some signal) × (signal.width ≡ length digits)
        w = width_from (slice_get flat.signals n) refl wide

        f : IsFirstPath flat path n
        f = first_path flat path n found

        same_signal : w.0 ≡ f.has.signal
        same_signal = some_same w.0 f.has.signal (sym w.1 ∙ f.has.there)

        path_same : w.0.path ≡ path
        path_same = ap (λ (s : Signal). s.path) same_signal ∙ f.has.path_is

-- a line tells one change at the most
pub told_once : (flat : Flat) (text : List ℕ) (a b : ValueChange) → TellsChange flat text a → TellsChange flat text b → a ≡ b
told_once flat text a b x y = same_change a b same.0 signals same.2
  where
    same : (a.time ≡ b.time) × (x.is.signal.path ≡ y.is.signal.path) × (a.digits ≡ b.digits)
    same = same_parts flat text a.time x.is.signal.path a.digits (parts_told flat text a x) b y

    signals : a.signal ≡ b.signal
    signals = one_first flat x.is.signal.path a.signal b.signal (record { has = has_told flat text a x; first = x.first })
        (told_path flat text a.time x.is.signal.path a.digits (parts_told flat text a x) b y)

    same_change : (c d : ValueChange) → c.time ≡ d.time → c.signal ≡ d.signal → c.digits ≡ d.digits → c ≡ d
    same_change c d t s g =
        ap (λ (time : ℕ). record { time = time; signal = c.signal; digits = c.digits }) t
        ∙ (ap (λ (signal : ℕ). record { time = d.time; signal = signal; digits = c.digits }) s
        ∙ ap (λ (digits : List ℕ). record { time = d.time; signal = d.signal; digits = digits }) g)
