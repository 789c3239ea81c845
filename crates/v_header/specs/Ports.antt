-- A means of proof: the ports that the code tells, as the definition has them, and their places, for the proofs of elaboration.
use Rattle.std.specs.Prelude.{ℕ, suc, List, [], ◌∷◌, ◌++◌, map, Option, None, Some, option_map, bytes_eq, if◌then◌else◌}
use Rattle.std.specs.Option.{option_and_then}
use Rattle.v_syntax.specs.declared.statement.Identifier.{Identifier}
use Rattle.v_syntax.specs.declared.item.Direction.{Direction}
use Rattle.v_syntax.specs.SourceTrees.{Ports, ItemTree, ItemAt}
use Rattle.v_flat.specs.Headers.{Port, direction_of, find_port}
use Rattle.v_header.specs.declared.ports.Port as code

-- a port of this name with this direction, if any
abbrev pub port_of : List ℕ → Option Direction → Port
port_of n d = record { name = n; direction = d }

-- a port with the name that the code refers to
abbrev pub port_in : code.Port → Port
port_in p = port_of p.name.now p.direction

-- all of them, in order
abbrev pub ports_in : List code.Port → List Port
ports_in ps = map port_in ps

-- how many ports stand before the first of a name
abbrev pub place_of : List ℕ → List Port → Option ℕ
place_of n [] = None
place_of n (p ∷ ps) = if bytes_eq p.name n then Some 0 else option_map suc (place_of n ps)

-- a port of an item that gives its ports a direction
abbrev pub line_port : Direction → Identifier → Port
line_port d i = port_of i.name (Some d)

-- each port of each item, as often as it is declared
abbrev pub item_ports : List ItemTree → List Port
item_ports [] = []
item_ports (ItemAt p (Ports h is) ∷ rest) = map (line_port (direction_of h)) is ++ item_ports rest
item_ports (ItemAt p k ∷ rest) = item_ports rest

-- its direction, if it has one
abbrev pub port_direction : Port → Option Direction
port_direction p = p.direction

-- the direction that these ports tell of a name
abbrev pub known_direction : List Port → List ℕ → Option Direction
known_direction ps n = option_and_then port_direction (find_port n ps)

-- a port that a header names, with the direction that these ports tell
abbrev pub known_port : List Port → Identifier → Port
known_port ps i = port_of i.name (known_direction ps i.name)

-- what one item declares
abbrev pub ports_in_item : ItemTree → List Port
ports_in_item i = item_ports (i ∷ [])
