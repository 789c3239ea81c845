-- The line and the column of a place in a text.
use Rattle.std.specs.Prelude.{ℕ, ◌+◌, ◌==◌, not, List, take, count_by}
use Rattle.std.specs.List.{suffix_len}
use Rattle.port_io.specs.declared.pos.Pos.{Pos}

-- one more than the line feeds before the place
abbrev pub line_number : List ℕ → ℕ → ℕ
line_number text place = 1 + count_by (λ byte. byte == 10) (take place text)

-- one more than the bytes between the last line feed before the place, or the beginning of the text, and the place
abbrev pub column_number : List ℕ → ℕ → ℕ
column_number text place = 1 + suffix_len (λ byte. not (byte == 10)) (take place text)

-- both, for the place before which so many bytes stand
abbrev pub pos_of : List ℕ → ℕ → Pos
pos_of text place = record { line = line_number text place; column = column_number text place }
