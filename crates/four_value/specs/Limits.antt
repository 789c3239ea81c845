-- How wide a vector may be.
use Rattle.std.specs.Prelude.{ℕ}

-- the most digits of a vector; the standard asks for at least 65,536 (IEEE 1364-2005, clause 4.3.1)
abbrev pub most_digits : ℕ
most_digits = 128
