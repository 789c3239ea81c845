-- A means of proof: the text of a row that is put together of repeated parts, for the test program of Python's texts.
use Rattle.std.specs.Prelude.{ℕ, min, List, ◌++◌}
use Rattle.std.specs.List.{repeat}
use Rattle.table_rows.specs.Rows.{decimal, part_at, written}

-- the most times that a part of a text is repeated
abbrev pub most_times : ℕ
most_times = 1048576

-- how many times a row says, at most that many
abbrev pub times_in : List ℕ → ℕ
times_in row = min (decimal (part_at 2 row)) most_times

-- part i of a row, so many times behind itself
abbrev pub repeated_at : ℕ → List ℕ → List ℕ
repeated_at i row = repeat (times_in row) (written (part_at i row))

-- a front, a part so many times, a middle, another part as many times, and a back
abbrev pub repeated : List ℕ → List ℕ
repeated row =
    written (part_at 3 row) ++ repeated_at 4 row ++ written (part_at 5 row) ++ repeated_at 6 row ++ written (part_at 7 row)
