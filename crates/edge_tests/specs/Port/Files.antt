-- A means of proof: what reads of stores come to, for the test program of stores and sinks.
use Rattle.std.specs.Prelude.{◌≡◌, ℕ, ◌+◌, ◌*◌, ◌≤◌, ◌==◌, Bool, List, [], ◌∷◌, ◌++◌, length, take, codes, Option, Some, None, IfSome, if◌then◌else◌}
use Rattle.std.specs.Fmt.{decimal}
use Rattle.std.specs.List.{list_all}
use Rattle.port_io.specs.Memory.{Files, fails_at, file_of}
use Rattle.port_io.specs.Ports.{next_count}
use Rattle.table_rows.specs.Rows.{decimal as number, part_at}
use Rattle.table_rows.specs.Shown.{in_quotes, latin}
use Rattle.edge_tests.specs.Port.Calls.{first_of, told}

-- the bytes of a read, or that it failed
abbrev pub bytes_text : Option (List ℕ) → List ℕ
bytes_text (Some bytes) = in_quotes bytes
bytes_text None = codes "Failed"

-- a read gave these bytes, or missed
abbrev pub Reads : {S : Type 0} → (S → List ℕ → ℕ → List ℕ → S → Type 0) → (S → List ℕ → S → Type 0) → S → List ℕ → ℕ → Option (List ℕ) → S
    → Type 0
Reads gives misses before name most (Some bytes) after = gives before name most bytes after
Reads gives misses before name most None after = misses before name after

-- ---- a store in memory

-- a read of the first so many bytes of a file
pub record Read : Type 0 where
  pub name : List ℕ
  pub most : ℕ

-- the first bytes of a file, where there is one
abbrev pub first_bytes : Option (List ℕ) → ℕ → Option (List ℕ)
first_bytes (Some file) most = Some (take most file)
first_bytes None most = None

-- what a read gives; nothing where it is one of those that fail
abbrev pub read_of : Files → Read → Option (List ℕ)
read_of store read = if fails_at store.failing store.calls then None else first_bytes (file_of store.files read.name) read.most

-- a read that gives nothing is counted as a fault
abbrev pub counted : Files → Option (List ℕ) → Files
counted store (Some bytes) = record store { calls = next_count store.calls }
counted store None = record store { calls = next_count store.calls; faults = next_count store.faults }

abbrev pub after_read : Files → Read → Files
after_read store read = counted store (read_of store read)

-- what a read gives, and a space
abbrev pub read_text : Files → Read → List ℕ
read_text store read = bytes_text (read_of store read) ++ codes " "

-- a read of the file of a name, but for an empty one
abbrev pub read_in : List ℕ → ℕ → List Read
read_in [] most = []
read_in (byte ∷ bytes) most = record { name = latin (byte ∷ bytes); most = most } ∷ []

-- the read of the pair of parts so many pairs behind the rule: a name and a limit
abbrev pub read_at : List ℕ → ℕ → List Read
read_at row n = read_in (part_at (2 * n + 2) row) (number (part_at (2 * n + 3) row))

-- the reads of a row of less than 200 parts
abbrev pub reads_of : List ℕ → List Read
reads_of row = first_of (read_at row) 99

-- two files, of which one was added twice; the second and the seventh read fail
abbrev pub two_files : Files
two_files = record {
  files = record { name = codes "t.py"; bytes = codes "import" } ∷ record { name = codes "t.py"; bytes = codes "old" }
      ∷ record { name = codes "d.v"; bytes = codes "module" } ∷ [];
  calls = 0;
  failing = 2 ∷ 7 ∷ [];
  faults = 0;
}

-- what is told of the reads of a row
abbrev pub store_text : List ℕ → List ℕ
store_text row = told read_text after_read two_files (reads_of row)

-- ---- the current folder

-- whether a byte is an `x`
abbrev pub is_x : ℕ → Bool
is_x byte = byte == 120

-- whether each byte is an `x`, in words
abbrev pub which_text : List ℕ → List ℕ
which_text bytes = if list_all is_x bytes then codes "x" else codes "other bytes"

-- how many bytes there are, and which; or that the read failed
abbrev pub counted_text : Option (List ℕ) → List ℕ
counted_text (Some bytes) = decimal (length bytes) ++ (codes " " ++ which_text bytes)
counted_text None = codes "Failed"

-- Some bytes, no more than were asked for, or a read that failed.
pub record ShowsCurrent (most : ℕ) (text : List ℕ) : Type 0 where
  pub bytes : Option (List ℕ)
  pub few : IfSome bytes (λ given. length given ≤ most)
  pub shows : text ≡ counted_text bytes

-- ---- a folder with one file

-- The first bytes of `import`, and these only of the file `t.py`, or a read that failed.
pub record ShowsFolder (name : List ℕ) (most : ℕ) (text : List ℕ) : Type 0 where
  pub bytes : Option (List ℕ)
  pub given : IfSome bytes (λ first. (name ≡ codes "t.py") × (first ≡ take most (codes "import")))
  pub shows : text ≡ bytes_text bytes
