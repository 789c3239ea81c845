-- The direction that the ports of items tell is the one that is declared first.
use Rattle.std.proofs.Common.{◌≡◌, ℕ, List, [], ◌∷◌, ◌++◌, map, Option, Some, Bool, true, false, ◌||◌, if◌then◌else◌, bytes_eq, is_some, refl, ap, ◌∙◌}
use Rattle.std.specs.List.{list_any}
use Rattle.std.specs.Option.{option_and_then}
use Rattle.v_syntax.specs.declared.statement.Identifier.{Identifier}
use Rattle.v_syntax.specs.declared.item.Direction.{Direction}
use Rattle.v_syntax.specs.SourceTrees.{Ports, Nets, Registers, Integers, Parameters, Drivers, Always, Initial, Instance, ItemTree, ItemAt, NamedPorts}
use Rattle.v_flat.specs.Headers.{Port, declared_direction, direction_of, find_port, header_ports, name_of}
use Rattle.v_flat.specs.Declarations.{find_direction}
use Rattle.v_header.specs.Ports.{item_ports, known_direction, known_port, line_port, port_direction, port_of}
use Rattle.v_header.proofs.Places.{same_either_way}

line_by : (d : Direction) (i : Identifier) (o : Option Port) (e : Option Direction) (b c : Bool) → option_and_then port_direction o ≡ (if b then Some d else e)
    → option_and_then port_direction (if c then Some (port_of i.name (Some d)) else o) ≡ (if c || b then Some d else e)
line_by d i o e b true h = refl
line_by d i o e b false h = h

-- the names of one item
of_line : (d : Direction) (is : List Identifier) (n : List ℕ) (rest : List Port)
    → known_direction (map (line_port d) is ++ rest) n ≡ (if list_any (bytes_eq n) (map name_of is) then Some d else known_direction rest n)
of_line d [] n rest = refl
of_line d (i ∷ is) n rest =
    ap (λ c. option_and_then port_direction (if c then Some (port_of i.name (Some d)) else find_port n (map (line_port d) is ++ rest))) (same_either_way i.name n)
    ∙ line_by d i (find_port n (map (line_port d) is ++ rest)) (known_direction rest n) (list_any (bytes_eq n) (map name_of is)) (bytes_eq n i.name) (of_line d is n rest)

told_first : (is : List ItemTree) (n : List ℕ) → known_direction (item_ports is) n ≡ declared_direction n is
told_first [] n = refl
told_first (ItemAt p (Ports h is) ∷ rest) n =
    of_line (direction_of h) is n (item_ports rest) ∙ ap (λ (o : Option Direction). if list_any (bytes_eq n) (map name_of is) then Some (direction_of h) else o) (told_first rest n)
told_first (ItemAt p (Nets r ds) ∷ rest) n = told_first rest n
told_first (ItemAt p (Registers r ds) ∷ rest) n = told_first rest n
told_first (ItemAt p (Integers is) ∷ rest) n = told_first rest n
told_first (ItemAt p (Parameters k r ps) ∷ rest) n = told_first rest n
told_first (ItemAt p (Drivers ds) ∷ rest) n = told_first rest n
told_first (ItemAt p (Always c s) ∷ rest) n = told_first rest n
told_first (ItemAt p (Initial s) ∷ rest) n = told_first rest n
told_first (ItemAt p (Instance m ps i cs) ∷ rest) n = told_first rest n

-- the ports of a header that only names them
pub named_ports : (names : List Identifier) (is : List ItemTree) → map (known_port (item_ports is)) names ≡ header_ports (NamedPorts names) is
named_ports [] is = refl
named_ports (i ∷ names) is =
    let first : known_direction (item_ports is) i.name ≡ declared_direction i.name is = told_first is i.name in
    let rest : map (known_port (item_ports is)) names ≡ header_ports (NamedPorts names) is = named_ports names is in
    λ j. port_of i.name (first j) ∷ rest j

direction_by : (p : Port) (ps : List Port) (n : List ℕ) (b : Bool) → is_some (known_direction ps n) ≡ find_direction n ps
    → is_some (option_and_then port_direction (if b then Some p else find_port n ps)) ≡ (if b then is_some p.direction else find_direction n ps)
direction_by p ps n true h = refl
direction_by p ps n false h = h

-- whether a port has a direction
pub has_direction : (ps : List Port) (n : List ℕ) → is_some (known_direction ps n) ≡ find_direction n ps
has_direction [] n = refl
has_direction (p ∷ ps) n = direction_by p ps n (bytes_eq p.name n) (has_direction ps n)
