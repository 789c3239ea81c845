-- A means of proof: the planes come back from the digits, for the proofs of vectors.
use Rattle.std.proofs.Common.{◌≡◌, ℕ, zero, suc, ◌%◌, ◌/◌, ◌^◌, ◌<◌, length, refl, ap, arith}
use Rattle.std.proofs.Math.Nat.{pow-suc}
use Rattle.four_value.specs.declared.vector.Bits.TheInside.{Inside}
use Rattle.four_value.specs.Planes.{digit_of, digits, value_bit, unknown_bit, value_plane, unknown_plane, ArePlanes}

pub digits_length : (w a b : ℕ) → length (digits w a b) ≡ w
unfolding digits
digits_length zero a b = refl
digits_length (suc w) a b = ap suc (digits_length w (a / 2) (b / 2))

pub value_bit-digit_of : (p q : ℕ) → p < 2 → q < 2 → value_bit (digit_of p q) ≡ p
value_bit-digit_of zero zero h k = refl
value_bit-digit_of zero (suc q) h k = refl
value_bit-digit_of (suc p) zero h k = omega arith
value_bit-digit_of (suc p) (suc q) h k = omega arith

pub unknown_bit-digit_of : (p q : ℕ) → p < 2 → q < 2 → unknown_bit (digit_of p q) ≡ q
unknown_bit-digit_of zero zero h k = refl
unknown_bit-digit_of zero (suc q) h k = omega arith
unknown_bit-digit_of (suc p) zero h k = refl
unknown_bit-digit_of (suc p) (suc q) h k = omega arith

pub half_below : (w a : ℕ) → a < 2 ^ suc w → a / 2 < 2 ^ w
half_below w a h = omega (arith, pow-suc 2 w)

pub value_plane-digits : (w a b : ℕ) → a < 2 ^ w → value_plane (digits w a b) ≡ a
unfolding digits value_plane
value_plane-digits zero a b h = omega arith
value_plane-digits (suc w) a b h = rw (value_bit-digit_of (a % 2) (b % 2) (omega arith) (omega arith), value_plane-digits w (a / 2) (b / 2) (half_below w a h)) (omega arith)

pub unknown_plane-digits : (w a b : ℕ) → b < 2 ^ w → unknown_plane (digits w a b) ≡ b
unfolding digits unknown_plane
unknown_plane-digits zero a b h = omega arith
unknown_plane-digits (suc w) a b h = rw (unknown_bit-digit_of (a % 2) (b % 2) (omega arith) (omega arith), unknown_plane-digits w (a / 2) (b / 2) (half_below w b h)) (omega arith)

pub planes_back : (a : Inside) → ArePlanes a.width a.value a.unknown →
    let ds = digits a.width a.value a.unknown in let back : Inside = record { width = length ds; value = value_plane ds; unknown = unknown_plane ds } in back ≡ a
planes_back a h =
    let e1 = digits_length a.width a.value a.unknown in
    let e2 = value_plane-digits a.width a.value a.unknown h.value_fits in
    let e3 = unknown_plane-digits a.width a.value a.unknown h.unknown_fits in
    rw (e1, e2, e3) refl
