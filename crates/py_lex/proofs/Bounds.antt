-- No operator is longer than the text in which it stands.
use Rattle.std.proofs.Common.{◌≡◌, ℕ, zero, suc, ◌<◌, ◌≤◌, Bool, true, false, List, [], ◌∷◌, length, Option, None, Some, arith, ◌==◌, ◌&&◌, ◌⊎◌, inl, inr, refl}
use Rattle.std.proofs.lemmas.Bool.Decides.{nat_tests}
use Rattle.std.specs.Prelude.{slice_index, IfSome, if◌then◌else◌}
use Rattle.py_syntax.specs.Marks.{operator_at, or_shorter, doubled, doubled_with_equals, with_equals, single}
use Rattle.py_lex.specs.Fits.{IsSpelled}
use Rattle.py_syntax.specs.declared.operator.Operator.{Operator}

always : {A : Type 0} {P : Type 0} → (x : Option A) → P → IfSome x (λ y. P)
always None p = tt
always (Some y) p = p

chosen : {A : Type 0} (P : Type 0) (c : Bool) (x : Option A) → (c ≡ false) ⊎ P ⊎ (x ≡ None) → IfSome (if c then x else None) (λ y. P)
chosen P c x (inl e) = rw e tt
chosen P c x (inr (inl p)) = always _ p
chosen P true x (inr (inr e)) = rw e tt
chosen P false x (inr (inr e)) = tt

not_zero : (a : ℕ) → (suc a == 0) ≡ false
not_zero a = grind (arith, nat_tests)

and_false : (c : Bool) → (c && false) ≡ false
and_false true = refl
and_false false = refl

three : (a b c : ℕ) → IfSome (if (a == b) && (c == 61) then doubled_with_equals a else None) (λ op. (0 < b) × (0 < c))
three a (suc b) (suc c) = let p : (0 < suc b) × (0 < suc c) = (omega arith, omega arith) in always _ p
three zero zero c = chosen _ _ _ (inr (inr refl))
three (suc a) zero c = rw (not_zero a) tt
three a (suc b) zero = chosen _ _ _ (inl (and_false (a == suc b)))

two : (a b : ℕ) → IfSome (if a == b then doubled a else None) (λ op. 0 < b)
two a (suc b) = let p : 0 < suc b = omega arith in always _ p
two zero zero = tt
two (suc a) zero = rw (not_zero a) tt

two_equals : (a b : ℕ) → IfSome (if b == 61 then with_equals a else None) (λ op. 0 < b)
two_equals a (suc b) = let p : 0 < suc b = omega arith in always _ p
two_equals a zero = tt

shorter : (b c n : ℕ) (P : Type 0) (x : Option Operator) (y : Option (Operator × ℕ)) → (P → IsSpelled b c n) → IfSome x (λ op. P) → IfSome y (λ z. IsSpelled b c z.1)
    → IfSome (or_shorter n x y) (λ z. IsSpelled b c z.1)
shorter b c n P None y f p q = q
shorter b c n P (Some op) y f p q = f p

pub operator_spelled : (a b c : ℕ) → IfSome (operator_at a b c) (λ x. IsSpelled b c x.1)
unfolding operator_at
operator_spelled a b c =
    shorter b c 3 ((0 < b) × (0 < c)) _ _ (λ h. record { positive = omega arith; short = omega arith; second = λ k. h.0; third = λ k. h.1 }) (three a b c)
    (shorter b c 2 (0 < b) _ _ (λ h. record { positive = omega arith; short = omega arith; second = λ k. h; third = λ k. absurd (omega arith) }) (two a b)
    (shorter b c 2 (0 < b) _ _ (λ h. record { positive = omega arith; short = omega arith; second = λ k. h; third = λ k. absurd (omega arith) }) (two_equals a b)
    (shorter b c 1 (Unit {0}) (single a) None (λ h. record { positive = omega arith; short = omega arith; second = λ k. absurd (omega arith); third = λ k. absurd (omega arith) }) (always _ tt) tt)))

less_than : (n k b : ℕ) → b ≡ 0 → (k ≤ n → 0 < b) → n < k
less_than n k b e f = grind arith

pub spelled_within : (text : List ℕ) (n : ℕ) → 0 < length text → IsSpelled (slice_index text 1) (slice_index text 2) n → n ≤ length text
spelled_within [] n h s = absurd (omega arith)
spelled_within (a ∷ []) n h s = let k = less_than n 2 0 refl s.second in omega arith
spelled_within (a ∷ b ∷ []) n h s = let k = less_than n 3 0 refl s.third in omega arith
spelled_within (a ∷ b ∷ c ∷ bs) n h s = omega (arith, s.short)
