-- A means of proof: what it means that digits of nets are driven (IEEE 1364-2005, clause 6.1), for the proofs of elaboration.
use Rattle.std.specs.Prelude.{◌≡◌, ℕ, ◌+◌, ◌<◌, ◌≤◌, List, [], ◌∷◌, ◌++◌, Bool}
use Rattle.std.specs.Int.{bit_at, from_bool}
use Rattle.four_value.specs.Limits.{most_digits}
use Rattle.v_flat.specs.Targets.{Drive, is_driven}
use Rattle.v_process.specs.declared.drive.drive.Drive as code
use Rattle.v_process.specs.declared.drive.digits.DrivenDigits.{DrivenDigits}
use Rattle.v_process.specs.Drive.Masks.{mask_at}

abbrev pub drive_of : code.Drive → Drive
drive_of d = record { signal = d.signal.0; low = d.low; count = d.count }

-- its digits are those of a vector
abbrev pub IsInVector : Drive → Type 0
IsInVector d = d.low + d.count ≤ most_digits

-- digit i of the signal q
abbrev pub digit : ℕ → ℕ → Drive
digit q i = record { signal = q; low = i; count = 1 }

-- x has just the digits that one of these drives
pub record Keeps (x : DrivenDigits) (ds : List Drive) : Type 0 where
  pub digits : (q i : ℕ) → i < most_digits → bit_at (mask_at x q) i ≡ from_bool (is_driven (digit q i) ds)

-- ---- whatever list it was

-- the answer is whether d has a digit in common with one of the list
abbrev pub TellsDriven : DrivenDigits → Drive → Bool → Type 0
TellsDriven x d b = (ds : List Drive) → Keeps x ds → b ≡ is_driven d ds

-- y has the digits of d too
abbrev pub KeepsMore : DrivenDigits → Drive → DrivenDigits → Type 0
KeepsMore x d y = (ds : List Drive) → Keeps x ds → Keeps y (ds ++ (d ∷ []))

abbrev pub KeepsSame : DrivenDigits → DrivenDigits → Type 0
KeepsSame x y = (ds : List Drive) → Keeps x ds → Keeps y ds
