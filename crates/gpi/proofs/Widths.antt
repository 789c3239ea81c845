-- The widths of what operators give, and of a list of vectors, read and after a write.
use Rattle.std.proofs.Common.{◌≡◌, ℕ, zero, suc, ◌<◌, List, [], ◌∷◌, length, set, get_or, refl, ap, arith, ◌∙◌, Option, Some, None}
use Rattle.std.proofs.lemmas.List.{length-replicate}
use Rattle.four_value.specs.declared.Digit.{Digit}
use Rattle.four_value.specs.declared.Digit.TheVariants.{Zero, X}
use Rattle.four_value.specs.Vector.{add, sub, shl, shr, number, by_count, shift_up, shift_down}
use Rattle.four_value.proofs.Lengths.{length_add, length_sub, length_shift_up, length_shift_down}
use Rattle.gpi.specs.Operators.{zero_like}
use Rattle.gpi.specs.Terms.{widths_of}

pub length_plus : (xs : List Digit) → length (add (zero_like xs) xs) ≡ length xs
length_plus xs = length_add (zero_like xs) xs ∙ length-replicate (length xs) Zero

pub length_minus : (xs : List Digit) → length (sub (zero_like xs) xs) ≡ length xs
length_minus xs = length_sub (zero_like xs) xs ∙ length-replicate (length xs) Zero

length_up : (xs : List Digit) (count : Option ℕ) → length (by_count shift_up xs count) ≡ length xs
length_up xs (Some n) = length_shift_up xs n
length_up xs None = length-replicate (length xs) X

length_down : (xs : List Digit) (count : Option ℕ) → length (by_count shift_down xs count) ≡ length xs
length_down xs (Some n) = length_shift_down xs n
length_down xs None = length-replicate (length xs) X

pub length_shl : (xs ys : List Digit) → length (shl xs ys) ≡ length xs
length_shl xs ys = length_up xs (number ys)

pub length_shr : (xs ys : List Digit) → length (shr xs ys) ≡ length xs
length_shr xs ys = length_down xs (number ys)

pub ruleset operators = (length_plus, length_minus, length_shl, length_shr)

pub length_widths : (m : List (List Digit)) → length (widths_of m) ≡ length m
length_widths [] = refl
length_widths (x ∷ m) = ap suc (length_widths m)

pub get_or_widths : (m : List (List Digit)) (n : ℕ) (d : List Digit) → n < length m → get_or (widths_of m) n 0 ≡ length (get_or m n d)
get_or_widths [] n d h = absurd (omega arith)
get_or_widths (x ∷ m) zero d h = refl
get_or_widths (x ∷ m) (suc n) d h = get_or_widths m n d (omega arith)

pub widths_set : (m : List (List Digit)) (n : ℕ) (v : List Digit) → n < length m → length v ≡ get_or (widths_of m) n 0 → widths_of (set m n v) ≡ widths_of m
widths_set [] n v h e = refl
widths_set (x ∷ m) zero v h e = rw e refl
widths_set (x ∷ m) (suc n) v h e = ap (λ (q : List ℕ). length x ∷ q) (widths_set m n v (omega arith) e)

pub ruleset widths = (length_widths, get_or_widths, widths_set)
