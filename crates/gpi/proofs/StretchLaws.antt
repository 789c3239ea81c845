-- How far the width of each signal stretches: a table of it, and the words of a memory.
use Rattle.std.proofs.Common.{◌≡◌, ℕ, zero, suc, ◌+◌, ◌-◌, ◌<◌, ◌≤◌, ◌⊎◌, inl, inr, ⊎_elim, List, length, slice_index, slice_set, refl, ap, sym, subst, ◌∙◌, arith}
use Rattle.std.proofs.lemmas.Grind.{get_or-set_at}
use Rattle.std.proofs.lemmas.List.{get_or-set_other, length-set}
use Rattle.gpi.specs.declared.selects.Words.{Words}
use Rattle.gpi.specs.Terms.{IsWidth, AreWords}
use Rattle.gpi.specs.Stretches.{IsStretch, AreStretches, AreStretchesFrom}

-- ---- one more signal in front

pub stretch_one : (s : ℕ) (ws : List ℕ) → s < length ws → (s + 1 < length ws → slice_index ws (s + 1) ≡ slice_index ws s → ⊥)
    → IsStretch 1 s ws
stretch_one s ws inside other = record {
  some = omega arith;
  inside = omega (arith, inside);
  same = λ t low high. let e : t ≡ s = omega (arith, low, high) in ap (λ (k : ℕ). slice_index ws k) e;
  ends = other;
}

same_more : (n s t : ℕ) (ws : List ℕ) → IsStretch n (s + 1) ws → slice_index ws (s + 1) ≡ slice_index ws s → s ≤ t → t < s + (n + 1)
    → t ≡ s ⊎ s < t → slice_index ws t ≡ slice_index ws s
same_more n s t ws r e low high (inl h) = ap (λ (k : ℕ). slice_index ws k) h
same_more n s t ws r e low high (inr h) = r.same t (omega (arith, h)) (omega (arith, high)) ∙ e

first_or_later : (s t : ℕ) → s ≤ t → t ≡ s ⊎ s < t
first_or_later zero zero h = inl refl
first_or_later zero (suc t) h = inr (omega arith)
first_or_later (suc s) zero h = absurd (omega (arith, h))
first_or_later (suc s) (suc t) h = ⊎_elim (λ e. inl (ap suc e)) (λ l. inr (omega (arith, l))) (first_or_later s t (omega (arith, h)))

pub stretch_more : (n s : ℕ) (ws : List ℕ) → IsStretch n (s + 1) ws → slice_index ws (s + 1) ≡ slice_index ws s → IsStretch (n + 1) s ws
stretch_more n s ws r e =
    let k : s + (n + 1) ≡ s + 1 + n = omega arith in
    record {
      some = omega arith;
      inside = omega (arith, r.inside);
      same = λ t low high. same_more n s t ws r e low high (first_or_later s t low);
      ends = λ l f. r.ends (omega (arith, l)) (ap (λ (j : ℕ). slice_index ws j) (sym k) ∙ (f ∙ sym e));
    }

-- ---- the table

at_set : (n k s : ℕ) (stretches ws : List ℕ) → AreStretchesFrom (k + 1) stretches ws → IsStretch n k ws → k < length stretches
    → s < length ws → k ≤ s → s ≡ k ⊎ k < s
    → IsStretch (slice_index (slice_set stretches k n) s) s ws
at_set n k s stretches ws known stretch room inside low (inl h) =
    let e : slice_index (slice_set stretches k n) s ≡ n = get_or-set_at stretches k s n 0 h room in
    subst (λ (v : ℕ). IsStretch v s ws) (sym e) (subst (λ (j : ℕ). IsStretch n j ws) (sym h) stretch)
at_set n k s stretches ws known stretch room inside low (inr h) =
    let apart : s ≡ k → ⊥ = λ f. absurd (omega (arith, f, h)) in
    let e : slice_index (slice_set stretches k n) s ≡ slice_index stretches s = get_or-set_other stretches k s n 0 apart in
    subst (λ (v : ℕ). IsStretch v s ws) (sym e) (known.each s (omega (arith, h)) inside)

pub stretches_more : (n k : ℕ) (stretches ws : List ℕ) → k < length ws → AreStretchesFrom (k + 1) stretches ws → IsStretch n k ws
    → AreStretchesFrom k (slice_set stretches k n) ws
stretches_more n k stretches ws inside known stretch =
    let room : k < length stretches = omega (arith, inside, known.count) in
    record {
      count = omega (arith, known.count, length-set stretches k n);
      each = λ s low high. at_set n k s stretches ws known stretch room high low (first_or_later k s low);
    }

pub stretches_none : (stretches ws : List ℕ) → length ws ≤ length stretches → AreStretchesFrom (length ws) stretches ws
stretches_none stretches ws room = record {
  count = room;
  each = λ s low high. absurd (omega (arith, low, high));
}

pub stretches_before : (at : ℕ) (stretches ws : List ℕ) → 0 < at → AreStretchesFrom at stretches ws
    → AreStretchesFrom (at - 1 + 1) stretches ws
stretches_before at stretches ws some known =
    let e : at ≡ at - 1 + 1 = omega (arith, some) in
    subst (λ (k : ℕ). AreStretchesFrom k stretches ws) e known

pub ruleset steps = (stretch_one, stretch_more)

pub ruleset table = (stretches_more, stretches_none, stretches_before)

-- ---- the words of a memory

pub words_are : (words : Words) (w : ℕ) (stretches ws : List ℕ) → AreStretches stretches ws → words.first.0 < length ws
    → words.count ≤ slice_index stretches words.first.0
    → (0 < words.count → slice_index ws words.first.0 ≡ w) → IsWidth w → AreWords words w ws
words_are words w stretches ws known first stretch here width =
    let r = known.each words.first.0 (omega arith) first in
    record {
      first = first;
      inside = omega (arith, stretch, r.inside);
      width = width;
      each = λ s low high. r.same s low (omega (arith, high, stretch)) ∙ here (omega (arith, low, high));
    }

pub words_stretch : (words : Words) (w : ℕ) (stretches ws : List ℕ) → AreStretches stretches ws
    → slice_index stretches words.first.0 < words.count → AreWords words w ws → ⊥
words_stretch words w stretches ws known stretch a =
    let r = known.each words.first.0 (omega arith) a.first in
    let n = slice_index stretches words.first.0 in
    let f : words.first.0 + n < words.first.0 + words.count = omega (arith, stretch) in
    let here : slice_index ws words.first.0 ≡ w = a.each words.first.0 (omega arith) (omega (arith, stretch)) in
    r.ends (omega (arith, f, a.inside)) (a.each (words.first.0 + n) (omega arith) f ∙ sym here)

pub words_here : (words : Words) (w : ℕ) (ws : List ℕ) → 0 < words.count → AreWords words w ws → slice_index ws words.first.0 ≡ w
words_here words w ws some a = a.each words.first.0 (omega arith) (omega (arith, some))

pub ruleset words = (words_are, words_stretch, words_here)
