-- A means of proof: vectors of at most 128 digits, whatever is broken beside them, for the proofs of elaboration.
use Rattle.std.specs.Prelude.{ℕ, nat_le}
use Rattle.gpi.specs.Terms.{IsWidth}
use Rattle.v_flat.specs.declared.scope.rule.ElabRule.TheVariants as rule
use Rattle.v_flat.specs.declared.scope.found.Found.{Found}
use Rattle.v_flat.specs.declared.scope.found.Found.TheVariants.{Sound}
use Rattle.v_flat.specs.Scope.Found.{ForValue, needs}
use Rattle.v_flat.specs.Scope.Limits.{most_digits}
use Rattle.v_flat.specs.Scope.Scope.{width_of}
use Rattle.v_flat.specs.declared.scope.meaning.Bounds.{Bounds}

-- bounds that are found are those of 1 to 128 digits
abbrev pub IsVectorRange : Found Bounds → Type 0
IsVectorRange x = ForValue (λ (b : Bounds). IsWidth (width_of b)) x

-- at most 128 digits, or else TooWide is broken at this token
abbrev pub narrowed : ℕ → Bounds → Found Bounds
narrowed p b = needs (nat_le (width_of b) most_digits) rule.TooWide p (Sound b)
