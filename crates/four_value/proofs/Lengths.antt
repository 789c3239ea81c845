-- How many digits the operations give.
use Rattle.std.proofs.Common.{◌≡◌, ℕ, ◌+◌, ◌-◌, ◌*◌, ◌/◌, ◌%◌, ◌^◌, ◌≤◌, Bool, true, false, cond, ltb, List, length, Option, Some, None, arith}
use Rattle.std.proofs.lemmas.List.{length-replicate, length-take, length-drop, length-append}
use Rattle.four_value.specs.declared.Digit.{Digit}
use Rattle.four_value.specs.declared.Digit.TheVariants.{X}
use Rattle.four_value.specs.Vector.{vector, number, both, of_numbers, add, sub, mul, div, rem, all_x, slice, resize, shift_up, shift_down}
use Rattle.four_value.proofs.Tables.{length_map2}
use Rattle.four_value.proofs.Numbers.{length_vector}

length_of_numbers : (w : ℕ) (f : ℕ → ℕ → List Digit) (o : Option (ℕ × ℕ)) → ((m n : ℕ) → length (f m n) ≡ w) → length (of_numbers w f o) ≡ w
length_of_numbers w f (Some (m, n)) h = h m n
length_of_numbers w f None h = length-replicate w X

length_or_x : (b : Bool) (w n : ℕ) → length (cond b (vector w n) (all_x w)) ≡ w
length_or_x true w n = length_vector w n
length_or_x false w n = length-replicate w X

pub length_add : (xs ys : List Digit) → length (add xs ys) ≡ length xs
length_add xs ys = length_of_numbers (length xs) _ (both (number xs) (number ys)) (λ m n. length_vector (length xs) (m + n))

pub length_sub : (xs ys : List Digit) → length (sub xs ys) ≡ length xs
length_sub xs ys = length_of_numbers (length xs) _ (both (number xs) (number ys)) (λ m n. length_vector (length xs) (m + (2 ^ length xs - n)))

pub length_mul : (xs ys : List Digit) → length (mul xs ys) ≡ length xs
length_mul xs ys = length_of_numbers (length xs) _ (both (number xs) (number ys)) (λ m n. length_vector (length xs) (m * n))

pub length_div : (xs ys : List Digit) → length (div xs ys) ≡ length xs
length_div xs ys = length_of_numbers (length xs) _ (both (number xs) (number ys)) (λ m n. length_or_x (ltb 0 n) (length xs) (m / n))

pub length_rem : (xs ys : List Digit) → length (rem xs ys) ≡ length xs
length_rem xs ys = length_of_numbers (length xs) _ (both (number xs) (number ys)) (λ m n. length_or_x (ltb 0 n) (length xs) (m % n))

pub length_slice : (xs : List Digit) (low w : ℕ) → low + w ≤ length xs → length (slice xs low w) ≡ w
length_slice xs low w h = simp (length-take, length-drop) (omega arith)

pub length_resize : (xs : List Digit) (w : ℕ) → length (resize xs w) ≡ w
length_resize xs w = simp (length-take, length-append, length-replicate) (omega arith)

pub length_shift_up : (xs : List Digit) (n : ℕ) → length (shift_up xs n) ≡ length xs
length_shift_up xs n = simp (length-take, length-append, length-replicate) (omega arith)

pub length_shift_down : (xs : List Digit) (n : ℕ) → length (shift_down xs n) ≡ length xs
length_shift_down xs n = simp (length-take, length-append, length-drop, length-replicate) (omega arith)

pub ruleset lengths = (length_map2, length_add, length_sub, length_mul, length_div, length_rem, length_slice, length_resize, length_shift_up, length_shift_down)
