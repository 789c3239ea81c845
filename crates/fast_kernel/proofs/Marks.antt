-- Marks of the found processes.
use Rattle.std.proofs.Common.{◌≡◌, ℕ, zero, suc, ◌+◌, ◌<◌, ◌==◌, ◌||◌, Bool, true, false, if◌then◌else◌, List, [], ◌∷◌, ◌++◌, length, drop, slice_index_or, slice_set, get_or, drop-cons, add-one, refl, arith, ◌∙◌}
use Rattle.std.specs.Bool.{MatchBool}
use Rattle.std.proofs.lemmas.Bool.Decides.{nat_tests}
use Rattle.gpi.specs.Keys.{holds}
use Rattle.kernel_base.specs.Lists.{AreBelow}
use Rattle.kernel_base.proofs.Lists.{holds_push}

unlike : (q : ℕ) → (suc q == zero) ≡ false
unlike q = grind (arith, nat_tests)

like : (p : ℕ) → (zero == suc p) ≡ false
like p = grind (arith, nat_tests)

shift : (q p : ℕ) → (suc q == suc p) ≡ (q == p)
shift q p = grind (arith, nat_tests)

pub mark_set : (ms : List Bool) (p q : ℕ) (b : Bool) → p < length ms → slice_index_or (slice_set ms p b) q false ≡ (if q == p then b else slice_index_or ms q false)
mark_set [] p q b h = absurd (omega arith)
mark_set (m ∷ ms) zero zero b h = refl
mark_set (m ∷ ms) zero (suc q) b h = rw (unlike q) refl
mark_set (m ∷ ms) (suc p) zero b h = rw (like p) refl
mark_set (m ∷ ms) (suc p) (suc q) b h = rw (shift q p) (mark_set ms p q b (omega arith))

by_test : (t x : Bool) → (if t then true else x) ≡ (x || t)
by_test true true = refl
by_test true false = refl
by_test false true = refl
by_test false false = refl

-- one more is marked and stands at the end
pub marked_more : (ms : List Bool) (xs ys : List ℕ) (p : ℕ) → p < length ms → ys ≡ xs ++ p ∷ [] → ((q : ℕ) → slice_index_or ms q false ≡ holds q xs)
    → (q : ℕ) → slice_index_or (slice_set ms p true) q false ≡ holds q ys
marked_more ms xs ys p h e m q = mark_set ms p q true h ∙ rw (m q, e, holds_push q p xs) (by_test (q == p) (holds q xs))

none_left : (t x r : Bool) → (t || r) ≡ false → x ≡ false → (if t then false else x) ≡ false
none_left true x r h e = refl
none_left false x r h e = e

both_false : (t r : Bool) → t ≡ false → r ≡ false → (t || r) ≡ false
both_false t r h k = rw (h, k) refl

cases_of : (t x : Bool) → (t ≡ false → x ≡ false) → (if t then false else x) ≡ false
cases_of true x h = refl
cases_of false x h = h refl

-- what is marked is still to come
pub unmarked_more : (ms : List Bool) (xs : List ℕ) (n p : ℕ) → n < length xs → p ≡ get_or xs n p → p < length ms
    → ((q : ℕ) → holds q (drop n xs) ≡ false → slice_index_or ms q false ≡ false)
    → (q : ℕ) → holds q (drop (n + 1) xs) ≡ false → slice_index_or (slice_set ms p false) q false ≡ false
unmarked_more ms xs n p h e b m q f =
    let held : holds q (drop n xs) ≡ ((q == p) || holds q (drop (n + 1) xs)) = rw (drop-cons xs n p h, add-one, ← e) refl in
    mark_set ms p q false b ∙ cases_of (q == p) (slice_index_or ms q false) (λ t. m q (held ∙ both_false (q == p) (holds q (drop (n + 1) xs)) t f))

get_below : (n k p : ℕ) (xs : List ℕ) → AreBelow n xs → k < length xs → p ≡ get_or xs k p → p < n
get_below n k p [] b h e = absurd (omega arith)
get_below n zero p (x ∷ xs) b h e = let c = b.0 in omega arith
get_below n (suc k) p (x ∷ xs) b h e = get_below n k p xs b.1 (omega arith) e

pub found_below : (n k p : ℕ) (xs : List ℕ) → AreBelow n xs → k < length xs → p ≡ get_or xs k p → p < n
found_below n k p xs b h e = get_below n k p xs b h e

pub by_true : (A B : Type 0) (r : Bool) → MatchBool r A B → r ≡ true → A
by_true A B true h e = h
by_true A B false h e = absurd (cc)
