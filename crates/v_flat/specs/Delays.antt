-- How long a delay is (IEEE 1364-2005, clauses 9.7.1 and 19.8).
use Rattle.std.specs.Prelude.{ℕ, zero, suc, ◌*◌, ◌/◌, ◌%◌, ◌==◌, nat_lt, nat_le, List, Option, Some, None, if◌then◌else◌}
use Rattle.four_value.specs.declared.Digit.{Digit}
use Rattle.four_value.specs.Vector.{number}
use Rattle.v_flat.specs.declared.timing.Timing.{Timing}

-- the unit of a module without a `timescale`, in femtoseconds
abbrev pub nanosecond : ℕ
nanosecond = 1000000

-- the longest delay, in steps
abbrev pub most_delay : ℕ
most_delay = 4611686018427387904

-- so many steps, if they aren't too many
abbrev pub few_steps : ℕ → Option ℕ
few_steps n = if nat_le n most_delay then Some n else None

-- so many femtoseconds in steps of so many, if they are a whole number of steps
abbrev pub whole_steps : ℕ → ℕ → Option ℕ
whole_steps fs zero = None
whole_steps fs (suc step) = if (fs % suc step) == 0 then few_steps (fs / suc step) else None

abbrev pub delay_steps : Timing → Option ℕ → Option ℕ
delay_steps q None = None
delay_steps q (Some n) = if nat_lt 0 n then whole_steps (n * q.unit_fs) q.step_fs else None

-- the steps of a delay of so many units; none where the number is 0 or has a digit that is x or z, or where its femtoseconds are no whole
-- number of steps or too many
abbrev pub steps_of : Timing → List Digit → Option ℕ
steps_of q ds = delay_steps q (number ds)
