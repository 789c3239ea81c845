-- Operands and their widths.
use Rattle.std.proofs.Common.{◌≡◌, ℕ, ◌<◌, List, [], ◌∷◌, length, subst, arith}
use Rattle.four_value.specs.declared.Digit.{Digit}
use Rattle.gpi.specs.Terms.{widths_of}
use Rattle.v_exec.specs.Fits.{Has_one, Has_two, Has_three}

pub one_there : (P : ℕ → Type 0) (st : List (List Digit)) → Has_one P (widths_of st) → 0 < length st
one_there P [] h = absurd h
one_there P (a ∷ st) h = omega arith

pub two_there : (P : ℕ → ℕ → Type 0) (st : List (List Digit)) → Has_two P (widths_of st) → 1 < length st
two_there P [] h = absurd h
two_there P (b ∷ []) h = absurd h
two_there P (b ∷ a ∷ st) h = omega arith

pub three_there : (P : ℕ → ℕ → ℕ → Type 0) (st : List (List Digit)) → Has_three P (widths_of st) → 2 < length st
three_there P [] h = absurd h
three_there P (c ∷ []) h = absurd h
three_there P (c ∷ b ∷ []) h = absurd h
three_there P (c ∷ b ∷ a ∷ st) h = omega arith

pub one_has : (P : ℕ → Type 0) (st : List (List Digit)) (a : List Digit) (rest : List (List Digit)) → Has_one P (widths_of st) → st ≡ a ∷ rest → P (length a)
one_has P st a rest h e = subst (λ (xs : List (List Digit)). Has_one P (widths_of xs)) e h

pub two_have : (P : ℕ → ℕ → Type 0) (st : List (List Digit)) (b a : List Digit) (more rest : List (List Digit)) → Has_two P (widths_of st) → st ≡ b ∷ more → more ≡ a ∷ rest → P (length a) (length b)
two_have P st b a more rest h e f = subst (λ (xs : List (List Digit)). Has_two P (widths_of (b ∷ xs))) f (subst (λ (xs : List (List Digit)). Has_two P (widths_of xs)) e h)

pub ruleset operands = (one_there, two_there, three_there, one_has, two_have)
