-- A means of proof: signals by their paths.
use Rattle.std.specs.Prelude.{◌≡◌, ◌==◌, ℕ, ◌∷◌, [], List, Bool, false, Option, None, Some, slice_get, find, bytes_eq}
use Rattle.std.specs.Option.{option_or}
use Rattle.name_table.specs.Places.{first_place}
use Rattle.gpi.specs.declared.design.Signal.{Signal}

-- the signal has this path
abbrev pub is_path : Option Signal → List ℕ → Bool
is_path None path = false
is_path (Some signal) path = bytes_eq path signal.path

-- the signal of this number has it
abbrev pub has_path : List Signal → List ℕ → ℕ → Bool
has_path signals path number = is_path (slice_get signals number) path

-- the signal has this width
abbrev pub is_wide : Option Signal → ℕ → Bool
is_wide None width = false
is_wide (Some signal) width = signal.width == width

-- a table of names has each of these signals, the first of those of one path, under its path
abbrev pub ArePlaces : List Signal → List ℕ → List (List ℕ × ℕ) → Type 0
ArePlaces signals numbers places = (path : List ℕ) → first_place places path ≡ find (has_path signals path) numbers

-- a signal more has its place, where no other has its path
abbrev pub NotesSignal : List Signal → ℕ → List (List ℕ × ℕ) → List (List ℕ × ℕ) → Type 0
NotesSignal signals number before after = (path : List ℕ) → first_place after path ≡ option_or (first_place before path) (find (has_path signals path) (number ∷ []))
