-- How many tasks there may be.
use Rattle.std.specs.Prelude.{ℕ}

-- how many tasks may live at once
abbrev pub live_limit : ℕ
live_limit = 65536
