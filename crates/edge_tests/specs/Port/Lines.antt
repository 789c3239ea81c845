-- A means of proof: what rows of a sink, a name, a sequence and a place come to, for the test program of stores and sinks.
use Rattle.std.specs.Prelude.{◌≡◌, ℕ, ◌+◌, Bool, true, false, not, ◌||◌, nat_lt, List, [], ◌∷◌, ◌++◌, length, map, fold, codes, if◌then◌else◌}
use Rattle.std.specs.Fmt.{decimal}
use Rattle.std.specs.List.{flat_map, slice_split}
use Rattle.port_io.specs.Memory.{Lines, fails_at}
use Rattle.port_io.specs.Pos.{column_number, line_number}
use Rattle.port_io.specs.Ports.{next_count}
use Rattle.table_rows.specs.Rows.{decimal as number, is_byte, part_at, written}
use Rattle.table_rows.specs.Shown.{in_quotes}
use Rattle.edge_tests.specs.Port.Calls.{first_of, told}

-- a put was taken, or broke
abbrev pub PutsAs : {O : Type 0} → (O → List ℕ → O → Type 0) → (O → List ℕ → O → Type 0) → O → List ℕ → Bool → O → Type 0
PutsAs takes breaks before line true after = takes before line after
PutsAs takes breaks before line false after = breaks before line after

-- whether a put was taken, in words
abbrev pub word_of : Bool → List ℕ
word_of true = codes "taken "
word_of false = codes "Failed "

-- Whether a put was taken, and some bytes.
pub record ShowsPut (text : List ℕ) : Type 0 where
  pub taken : Bool
  pub bytes : List ℕ
  pub shows : text ≡ word_of taken ++ in_quotes bytes

-- ---- a sink in memory

-- a put that is one of those that fail takes nothing
abbrev pub after_put : Lines → List ℕ → Lines
after_put sink line =
    if fails_at sink.failing sink.calls
    then record sink { calls = next_count sink.calls; faults = next_count sink.faults }
    else record sink { bytes = sink.bytes ++ line; calls = next_count sink.calls }

-- what is told of a put
abbrev pub put_word : Lines → List ℕ → List ℕ
put_word sink line = word_of (not (fails_at sink.failing sink.calls))

-- the text that a part says, but for an empty part
abbrev pub line_in : List ℕ → List (List ℕ)
line_in [] = []
line_in (byte ∷ bytes) = written (byte ∷ bytes) ∷ []

-- the text of the part so many parts behind the rule
abbrev pub line_at : List ℕ → ℕ → List (List ℕ)
line_at row n = line_in (part_at (n + 2) row)

-- the texts of a row of less than 100 parts
abbrev pub lines_of : List ℕ → List (List ℕ)
lines_of row = first_of (line_at row) 98

-- no byte yet, and the third put fails
abbrev pub third_fails : Lines
third_fails = record { bytes = []; calls = 0; failing = 3 ∷ []; faults = 0 }

-- what is told of the puts of these texts, and the bytes that were taken
abbrev pub puts_text : Lines → List (List ℕ) → List ℕ
puts_text sink lines = told put_word after_put sink lines ++ in_quotes (fold after_put sink lines).bytes

abbrev pub sink_text : List ℕ → List ℕ
sink_text row = puts_text third_fails (lines_of row)

-- ---- the small types

-- the bytes of a name
abbrev pub name_text : List ℕ → List ℕ
name_text row = in_quotes (part_at 2 row)

-- a number behind a space
abbrev pub number_text : ℕ → List ℕ
number_text n = codes " " ++ decimal n

-- how many numbers there are, and which
abbrev pub numbers_text : List ℕ → List ℕ
numbers_text numbers = (decimal (length numbers) ++ codes ":") ++ flat_map number_text numbers

-- the numbers between spaces
abbrev pub sequence_text : List ℕ → List ℕ
sequence_text row = numbers_text (map number (slice_split (is_byte 32) (part_at 2 row)))

-- the greatest place that is asked for
abbrev pub last_place : ℕ
last_place = 1048576

-- a place behind the text, or behind the last one
abbrev pub is_outside : List ℕ → ℕ → Bool
is_outside text place = nat_lt (length text) place || nat_lt last_place place

-- the line and the column of a place
abbrev pub position_text : List ℕ → ℕ → List ℕ
position_text text place =
    if is_outside text place then codes "outside"
    else codes "line " ++ (decimal (line_number text place) ++ (codes ", column " ++ decimal (column_number text place)))

abbrev pub place_text : List ℕ → List ℕ
place_text row = position_text (written (part_at 3 row)) (number (part_at 2 row))
