-- How long a text may be.
use Rattle.std.specs.Prelude.{ℕ}

-- the bytes of a design's text or of a tests file, each
abbrev pub most_bytes : ℕ
most_bytes = 1048576
