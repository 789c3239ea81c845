-- What is kept after pieces that were put one after the other.
use Rattle.std.specs.Prelude.{◌≡◌, ◌≢◌, ℕ, List, [], Option, None, Some}
use Rattle.std.specs.List.{last_or}
use Rattle.port_io.specs.Means.{PutsTo}
use Rattle.port_io.specs.declared.ports.SinkFault.TheVariants.{Failed}
use Rattle.command.specs.LastLine.Keeping.{last_means}

-- the last of these pieces, if there is one
abbrev pub last_of : List (List ℕ) → Option (List ℕ)
last_of pieces = last_or None pieces

-- Where pieces were all taken, the last of them is kept, or what was kept before where there was none.
abbrev pub KeepsLast : Type 0
KeepsLast = (before : List ℕ) (pieces : List (List ℕ)) (after : List ℕ) → PutsTo last_means before pieces None after → last_or (Some before) pieces ≡ Some after

-- Where there was one at least, the last of them is kept, whatever was kept before.
abbrev pub KeepsLastOf : Type 0
KeepsLastOf = (before : List ℕ) (pieces : List (List ℕ)) (after : List ℕ) → pieces ≢ [] → PutsTo last_means before pieces None after → last_of pieces ≡ Some after

-- None of these puts fails.
abbrev pub NoneFails : Type 0
NoneFails = (before : List ℕ) (pieces : List (List ℕ)) (after : List ℕ) → PutsTo last_means before pieces (Some Failed) after → ⊥
