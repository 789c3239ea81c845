-- The limits of values.
use Rattle.std.specs.Prelude.{ℕ, ◌^◌}

-- how many bytes a text may have
abbrev pub text_limit : ℕ
text_limit = 65536

-- how many numbers there are for signals
abbrev pub signal_numbers : ℕ
signal_numbers = 2 ^ 32

-- the longest time that a trigger waits, in steps
abbrev pub step_limit : ℕ
step_limit = 2 ^ 62

-- how many leaves a trigger may have
abbrev pub leaf_limit : ℕ
leaf_limit = 64

-- how many triggers may stand inside one another
abbrev pub depth_limit : ℕ
depth_limit = 64
