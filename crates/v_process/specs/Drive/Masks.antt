-- A means of proof: digits of a signal as a number, whose bit i stands for digit i, for the proofs of elaboration.
use Rattle.std.specs.Prelude.{ℕ, ◌-◌, ◌*◌, ◌^◌, nat_eq, unwrap_or}
use Rattle.std.specs.HashMap.{get}
use Rattle.v_flat.specs.Targets.{Drive}
use Rattle.v_process.specs.declared.drive.digits.DrivenDigits.{DrivenDigits}

abbrev pub mask : Drive → ℕ
mask d = (2 ^ d.count - 1) * 2 ^ d.low

-- those of signal q that are driven
abbrev pub mask_at : DrivenDigits → ℕ → ℕ
mask_at x q = unwrap_or (get nat_eq x.masks q) 0
