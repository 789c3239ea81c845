-- A width that is cut fits where the width does.
use Rattle.std.proofs.Common.{◌≡◌, ℕ, Bool, true, false, nat_le, refl, arith}
use Rattle.std.proofs.lemmas.Bool.Decides.{nat_tests}
use Rattle.v_flat.specs.Scope.Limits.{counted_width, most_digits}

fits_by : (w : ℕ) (a b : Bool) → nat_le (counted_width w) most_digits ≡ a → nat_le w most_digits ≡ b → a ≡ b
fits_by w true true p q = refl
fits_by w true false p q = absurd (grind (arith, nat_tests))
fits_by w false true p q = absurd (grind (arith, nat_tests))
fits_by w false false p q = refl

pub fits_cut : (w : ℕ) → nat_le (counted_width w) most_digits ≡ nat_le w most_digits
fits_cut w = fits_by w (nat_le (counted_width w) most_digits) (nat_le w most_digits) refl refl
