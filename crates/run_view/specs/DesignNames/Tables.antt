-- A means of proof: tables in which each name means what it means in the nodes.
use Rattle.std.specs.Prelude.{◌≡◌, ℕ, List, [], ◌∷◌}
use Rattle.gpi.specs.declared.design.Node.{Node}
use Rattle.gpi.specs.declared.design.Spot.{Spot}
use Rattle.py_evaluate.specs.Attribute.Look.{spot_of}

-- each name means the same in both lists
abbrev pub IsTable : List (List ℕ × Spot) → List (List ℕ × Spot) → Type 0
IsTable table declared = (n : List ℕ) → spot_of table n ≡ spot_of declared n

-- there is a table of each node
abbrev pub AreTables : List (List (List ℕ × Spot)) → List Node → Type 0
AreTables [] [] = Unit {0}
AreTables (table ∷ tables) (node ∷ nodes) = IsTable table node.children × AreTables tables nodes
AreTables _ _ = ⊥
