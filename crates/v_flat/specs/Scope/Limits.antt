-- How wide a vector and how long a memory may be, and how many signals, processes and instances a design may have. The standard
-- asks for at least 65,536 digits and 16,777,216 words (IEEE 1364-2005, clauses 4.3.1 and 4.9); the limits here are narrower. How
-- wide a vector may be is `four_value`'s limit.
use Rattle.std.specs.Prelude.{ℕ, ◌+◌, min}
pub use Rattle.four_value.specs.Limits.{most_digits}

-- what stands for each width beyond most_digits, where widths are cut
abbrev pub too_wide : ℕ
too_wide = most_digits + 1

-- a width that is cut: all beyond most_digits are one
abbrev pub counted_width : ℕ → ℕ
counted_width w = min w too_wide

-- the signals, the processes and the instances of a design, each
abbrev pub most_parts : ℕ
most_parts = 65536

-- the words of a memory, each of which is a signal
abbrev pub most_words : ℕ
most_words = most_parts
