-- A means of proof: numbers that aren't too great, for the proofs of Python's lexer.
use Rattle.std.specs.Prelude.{ℕ, ◌^◌, nat_lt, Option, None, Some, if◌then◌else◌}

-- the number, if it is below 2^127
abbrev pub limited : ℕ → Option ℕ
limited n = if nat_lt n (2 ^ 127) then Some n else None

abbrev pub limited_option : Option ℕ → Option ℕ
limited_option None = None
limited_option (Some n) = limited n
