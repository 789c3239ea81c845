-- A means of proof: what a store and a sink in memory hold, for the tests over them.
use Rattle.std.specs.Prelude.{ℕ, Bool, List, Option, ◌==◌, find}
use Rattle.std.specs.Option.{option_map}
use Rattle.std.specs.List.{list_any}
use Rattle.std.specs.Str.{bytes_eq}
use Rattle.port_io.specs.Ports.{next_count}

-- a file: its name and its bytes
pub record File : Type 0 where
  pub name : List ℕ
  pub bytes : List ℕ

-- the bytes of the newest file of that name
abbrev pub file_of : List File → List ℕ → Option (List ℕ)
file_of files name = option_map (λ file. file.bytes) (find (λ file. bytes_eq file.name name) files)

-- a store: its files, the newest first, its calls so far, the calls that fail, and how often it failed
pub record Files : Type 0 where
  pub files : List File
  pub calls : ℕ
  pub failing : List ℕ
  pub faults : ℕ

-- a sink: its bytes, its calls so far, the calls that fail, and how often it failed
pub record Lines : Type 0 where
  pub bytes : List ℕ
  pub calls : ℕ
  pub failing : List ℕ
  pub faults : ℕ

-- the call after so many is one of those that fail
abbrev pub fails_at : List ℕ → ℕ → Bool
fails_at failing calls = list_any (λ call. call == next_count calls) failing
