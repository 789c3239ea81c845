-- The names that are declared in the nodes of a design, as a view has them.
use Rattle.std.specs.Prelude.{ℕ, List, [], Option, map, slice_index_or}
use Rattle.gpi.specs.declared.design.Node.{Node}
use Rattle.gpi.specs.declared.design.Spot.{Spot}
use Rattle.py_evaluate.specs.Attribute.Look.{spot_of}

-- of each node the names that are declared in it: the `nodes` of a view of this design
abbrev pub names_of : List Node → List (List (List ℕ × Spot))
names_of nodes = map (λ (node : Node). node.children) nodes

-- what a name means that is declared in a node: `child` of each view with these nodes
abbrev pub child_of : List Node → ℕ → List ℕ → Option Spot
child_of nodes node name = spot_of (slice_index_or (names_of nodes) node []) name
