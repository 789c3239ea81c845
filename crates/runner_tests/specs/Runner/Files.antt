-- A means of proof: the two files of a row, and the sink of its command, for the test program of runs.
use Rattle.std.specs.Prelude.{ℕ, ◌-◌, List, [], ◌∷◌, ◌++◌, length, take, replicate, Some, codes, if◌then◌else◌}
use Rattle.std.specs.Str.{bytes_eq}
use Rattle.port_io.specs.Means.{SinkMeans, StoreMeans}
use Rattle.port_io.specs.Memory.{Files, Lines, file_of}
use Rattle.port_io.specs.Steps.{SinkBreaks, SinkTakes, StoreGives, StoreMisses}
use Rattle.table_rows.specs.Rows.{decimal, part_at, written}

-- part i of a row, as a number
abbrev pub decimal_at : ℕ → List ℕ → ℕ
decimal_at i row = decimal (part_at i row)

-- ---- the files

abbrev pub no_files : Files
no_files = record { files = []; calls = 0; failing = []; faults = 0 }

-- a part is the text of a file, or `-` where there is none
abbrev pub with_file : List ℕ → List ℕ → Files → Files
with_file name part store =
    if bytes_eq part (codes "-") then store
    else record store { files = record { name = name; bytes = written part } ∷ store.files }

-- the design is `d.v`, and the tests are `t.py`
abbrev pub store_with : List ℕ → List ℕ → Files
store_with design tests = with_file (codes "t.py") tests (with_file (codes "d.v") design no_files)

-- the read of that number fails too
abbrev pub with_failing_read : ℕ → Files → Files
with_failing_read call store = record store { failing = store.failing ++ call ∷ [] }

-- the files of a row, and the read that fails
abbrev pub store_at : List ℕ → Files
store_at row = with_failing_read (decimal_at 5 row) (store_with (part_at 3 row) (part_at 4 row))

-- what a store in memory tells, and what a read does to it
abbrev pub file_means : StoreMeans Files
file_means = record { files = λ store. Some (file_of store.files); gives = StoreGives; misses = StoreMisses }

-- ---- long files

-- so many bytes of a text, which is cut, or filled up with spaces
abbrev pub of_length : ℕ → List ℕ → List ℕ
of_length n text = take n text ++ replicate (n - length text) 32

-- the files of a row, each of its number of bytes
abbrev pub long_store : List ℕ → Files
long_store row =
    record no_files {
      files =
          record { name = codes "t.py"; bytes = of_length (decimal_at 5 row) (written (part_at 4 row)) }
          ∷ record { name = codes "d.v"; bytes = of_length (decimal_at 2 row) (written (part_at 3 row)) }
          ∷ [];
    }

-- ---- the sink

-- a sink without a byte, of which the put of that number fails
abbrev pub sink_failing : ℕ → Lines
sink_failing call = record { bytes = []; calls = 0; failing = call ∷ []; faults = 0 }

-- what a sink in memory tells, and what a put does to it
abbrev pub line_means : SinkMeans Lines
line_means = record { takes = SinkTakes; breaks = SinkBreaks; told = λ sink. Some sink.bytes }
