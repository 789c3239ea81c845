-- The paths of a design.
use Rattle.std.specs.Prelude.{ℕ, List, [], map, slice_index_or}
use Rattle.gpi.specs.declared.design.Flat.{Flat}

-- the paths of its signals and of its nodes, by number
pub record Places : Type 0 where
  pub signals : List (List ℕ)
  pub nodes : List (List ℕ)

abbrev pub path_at : List (List ℕ) → ℕ → List ℕ
path_at paths n = slice_index_or paths n []

abbrev pub places_of : Flat → Places
places_of flat = record { signals = map (λ s. s.path) flat.signals; nodes = map (λ n. n.path) flat.nodes }
