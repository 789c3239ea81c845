-- What is drawn of a range of whole numbers.
use Rattle.std.specs.Prelude.{ℕ, ◌*◌, ◌/◌, ◌^◌, ℤ, pos, ◌+ℤ◌}

-- the most numbers that a range has
abbrev pub span_limit : ℕ
span_limit = 2 ^ 32

-- what a word gives of the range of so many numbers from this one on
abbrev pub drawn : ℤ → ℕ → ℕ → ℤ
drawn low span word = low +ℤ pos (word * span / 2 ^ 32)
