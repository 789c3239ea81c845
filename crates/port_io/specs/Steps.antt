-- A means of proof: what a read and a put do to a store and a sink in memory, for the tests over them.
use Rattle.std.specs.Prelude.{◌≡◌, ◌⊎◌, ℕ, ◌≤◌, true, false, List, [], ◌++◌, take, None, Some, IsSomeAnd, refl}
use Rattle.std.specs.Io.KnownBytes.{Appends}
use Rattle.port_io.specs.Ports.{next_count, IsRaised, GivesFile, AppendsPart}
use Rattle.port_io.specs.CountLaws.{same_count, raised_count}
use Rattle.port_io.specs.Memory.{file_of, Files, Lines, fails_at}
use Rattle.std.proofs.Common.{sym, append-nil, ap, ◌∙◌}

-- a call that doesn't fail gives the first bytes of the file
pub record StoreGives (before : Files) (name : List ℕ) (most : ℕ) (bytes : List ℕ) (after : Files) : Type 0 where
  pub works : fails_at before.failing before.calls ≡ false
  pub found : IsSomeAnd (file_of before.files name) (λ file. bytes ≡ take most file)
  pub counted : after ≡ record before { calls = next_count before.calls }

-- a call misses where it is one of those that fail, or where there is no such file
pub record StoreMisses (before : Files) (name : List ℕ) (after : Files) : Type 0 where
  pub cause : (fails_at before.failing before.calls ≡ true) ⊎ (file_of before.files name ≡ None)
  pub counted : after ≡ record before { calls = next_count before.calls; faults = next_count before.faults }

-- a call that doesn't fail appends the piece
pub record SinkTakes (before : Lines) (piece : List ℕ) (after : Lines) : Type 0 where
  pub works : fails_at before.failing before.calls ≡ false
  pub counted : after ≡ record before { bytes = before.bytes ++ piece; calls = next_count before.calls }

-- a call breaks where it is one of those that fail, and takes nothing
pub record SinkBreaks (before : Lines) (piece : List ℕ) (after : Lines) : Type 0 where
  pub fails : fails_at before.failing before.calls ≡ true
  pub counted : after ≡ record before { calls = next_count before.calls; faults = next_count before.faults }

pub gives_file_of : (before : Files) (name : List ℕ) (most : ℕ) (bytes : List ℕ) (after : Files) → StoreGives before name most bytes after → GivesFile (Some (file_of before.files)) name most bytes
gives_file_of before name most bytes after given = given.found

pub gives_same_of : (before : Files) (name : List ℕ) (most : ℕ) (bytes : List ℕ) (after : Files) → StoreGives before name most bytes after → Some (file_of after.files) ≡ Some (file_of before.files)
gives_same_of before name most bytes after given = ap (λ (store : Files). Some (file_of store.files)) given.counted

pub misses_same_of : (before : Files) (name : List ℕ) (after : Files) → StoreMisses before name after → Some (file_of after.files) ≡ Some (file_of before.files)
misses_same_of before name after missed = ap (λ (store : Files). Some (file_of store.files)) missed.counted

pub takes_told_of : (before : Lines) (piece : List ℕ) (after : Lines) → SinkTakes before piece after → Appends (Some before.bytes) (Some after.bytes) piece
takes_told_of before piece after taken = ap (λ (lines : Lines). lines.bytes) taken.counted

pub breaks_told_of : (before : Lines) (piece : List ℕ) (after : Lines) → SinkBreaks before piece after → AppendsPart (Some before.bytes) (Some after.bytes) piece
breaks_told_of before piece after broken = ([], piece, refl, ap (λ (lines : Lines). lines.bytes) broken.counted ∙ sym (append-nil before.bytes))

pub gives_count_of : (before : Files) (name : List ℕ) (most : ℕ) (bytes : List ℕ) (after : Files) → StoreGives before name most bytes after → before.faults ≤ after.faults
gives_count_of before name most bytes after given = same_count before.faults after.faults (ap (λ (files : Files). files.faults) given.counted)

pub misses_count_of : (before : Files) (name : List ℕ) (after : Files) → StoreMisses before name after → IsRaised before.faults after.faults
misses_count_of before name after missed = raised_count before.faults after.faults (ap (λ (files : Files). files.faults) missed.counted)

pub takes_count_of : (before : Lines) (piece : List ℕ) (after : Lines) → SinkTakes before piece after → before.faults ≤ after.faults
takes_count_of before piece after taken = same_count before.faults after.faults (ap (λ (lines : Lines). lines.faults) taken.counted)

pub breaks_count_of : (before : Lines) (piece : List ℕ) (after : Lines) → SinkBreaks before piece after → IsRaised before.faults after.faults
breaks_count_of before piece after broken = raised_count before.faults after.faults (ap (λ (lines : Lines). lines.faults) broken.counted)
