-- How large a design may be, and how late a key.
use Rattle.std.specs.Prelude.{ℕ}

-- the signals, the processes and the instances of a design, each
abbrev pub most_elements : ℕ
most_elements = 65536

-- the latest time, in steps, for which a key may be registered
abbrev pub latest_time : ℕ
latest_time = 9223372036854775808

-- the latest time, in steps, at which a delayed update arrives
abbrev pub latest_update : ℕ
latest_update = 4611686018427387904
