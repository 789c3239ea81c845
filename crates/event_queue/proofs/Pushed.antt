-- A process put at the end of the ring.
use Rattle.std.proofs.Common.{◌≡◌, ℕ, zero, suc, ◌+◌, ◌-◌, ◌<◌, ◌≤◌, ◌==◌, ◌||◌, Bool, true, false, if◌then◌else◌, List, [], ◌∷◌, ◌++◌, length, set, get_or, drop, refl, sym, ◌∙◌, ap, arith, ⊎_elim, ◌⊎◌, Some, slice_get}
use Rattle.std.proofs.lemmas.Bool.{cases_eq}
use Rattle.std.proofs.lemmas.List.{get_or-set_same, get_or-set_other, length-set, length-append}
use Rattle.std.proofs.lemmas.Grind.{common_steps}
use Rattle.std.proofs.lemmas.Bool.Decides.{nat_tests}
use Rattle.circular_buffer.specs.Buffer.{keep_last}
use Rattle.gpi.specs.Keys.{holds}
use Rattle.kernel_base.specs.Lists.{AreBelow, AreDistinct}
use Rattle.kernel_base.proofs.Lists.{holds_push, below_push, distinct_push, short_more, itself}
use Rattle.event_queue.specs.Active.{IsRing, Active}

pub keeps_all : (n : ℕ) (xs : List ℕ) → length xs ≤ n → keep_last n xs ≡ xs
keeps_all n xs h = let e : length xs - n ≡ 0 = omega arith in rw e refl

or_true : (b : Bool) → (b || true) ≡ true
or_true true = refl
or_true false = refl

or_false : (b : Bool) → (b || false) ≡ b
or_false true = refl
or_false false = refl

other : (q p : ℕ) → (q ≡ p → ⊥) → (q == p) ≡ false
other q p h = grind (arith, nat_tests, h)

-- the flag of a process that isn't in the list is false
pub free : (list : List ℕ) (flags : List Bool) (p capacity : ℕ) → IsRing list flags capacity → p < length flags → get_or flags p false ≡ false → length list < capacity
free list flags p capacity r h f =
    let s = short_more (length flags) p list h (sym (r.flag p h) ∙ f) r.below r.distinct in
    let k = r.room in
    omega arith

pub fits : (list : List ℕ) (flags : List Bool) (p capacity : ℕ) → IsRing list flags capacity → p < length flags → get_or flags p false ≡ false
    → keep_last capacity (list ++ p ∷ []) ≡ list ++ p ∷ []
fits list flags p capacity r h f =
    let s = free list flags p capacity r h f in
    keeps_all capacity (list ++ p ∷ []) (simp length-append (omega arith))

flag_at : (list : List ℕ) (flags : List Bool) (p q : ℕ) → p < length flags → get_or flags q false ≡ holds q list → get_or (set flags p true) q false ≡ holds q (list ++ p ∷ [])
flag_at list flags p q h e =
    ⊎_elim
    (λ (s : q ≡ p). rw (s, get_or-set_same flags p true false h, holds_push p p list, itself p) (sym (or_true (holds p list))))
    (λ (o : q ≡ p → ⊥). rw (get_or-set_other flags p q true false o, holds_push q p list, other q p o, e) (sym (or_false (holds q list))))
    (cases_eq q p)

pub ring_push : (list : List ℕ) (flags : List Bool) (p capacity : ℕ) → IsRing list flags capacity → p < length flags → get_or flags p false ≡ false
    → IsRing (list ++ p ∷ []) (set flags p true) capacity
ring_push list flags p capacity r h f = record {
  flag = λ q k. flag_at list flags p q h (r.flag q (rw (length-set flags p true) at k));
  distinct = distinct_push p list r.distinct (sym (r.flag p h) ∙ f);
  below = rw (length-set flags p true) (below_push (length flags) p list r.below h);
  room = rw (length-set flags p true) r.room;
}

abbrev pub made : List ℕ → ℕ → Active
made list count = record { list = list; count = count }

pub pushed : (old : Active) (list : List ℕ) (flags : List Bool) (p capacity : ℕ) → made list (length flags) ≡ old
    → IsRing list flags capacity → p < length flags → get_or flags p false ≡ false
    → made (list ++ p ∷ []) (length (set flags p true)) ≡ made (if holds p old.list then old.list else old.list ++ p ∷ []) old.count
pushed old list flags p capacity e r h f =
    let free : holds p list ≡ false = sym (r.flag p h) ∙ f in
    rw (← e, length-set flags p true, free) refl

pub first_below : (list : List ℕ) (p count : ℕ) → Some p ≡ slice_get list 0 → AreBelow count list → p < count
first_below [] p count e b = absurd (cc)
first_below (x ∷ list) p count e b = let f : p ≡ x = cc in rw f b.0
