-- A means of proof: signals, as they are counted.
use Rattle.std.specs.Prelude.{◌≡◌, List, Some}
use Rattle.v_flat.specs.Declarations.{Declared, find_declared}

-- a name that has a declaration has as many signals with this one
abbrev pub KeepsWords : Declared → List Declared → Type 0
KeepsWords x ds = (old : Declared) → find_declared x.name ds ≡ Some old → old.words ≡ x.words
