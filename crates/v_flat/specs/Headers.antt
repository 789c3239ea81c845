-- What a module's header and declarations say before its parameters have values: its ports, its parameters, its names (IEEE 1364-2005,
-- clauses 4.10, 4.11 and 12.3).
use Rattle.std.specs.Prelude.{ℕ, List, [], ◌∷◌, ◌++◌, map, Option, None, Some, Bool, true, false, bytes_eq, if◌then◌else◌}
use Rattle.std.specs.List.{list_any}
use Rattle.v_syntax.specs.declared.statement.Identifier.{Identifier}
use Rattle.v_syntax.specs.declared.item.Direction.{Direction}
use Rattle.v_syntax.specs.declared.item.Direction.TheVariants as direction
use Rattle.v_syntax.specs.declared.item.ParameterKind.{ParameterKind}
use Rattle.v_syntax.specs.declared.item.ParameterKind.TheVariants as parameter_kind
use Rattle.v_syntax.specs.ExpressionTrees.{Tree}
use Rattle.v_syntax.specs.SourceTrees.{RangeTree, PortHeadTree, Head, NetTree, Net as NetOf, RegisterTree, Register as RegisterOf, ParameterTree, Parameter as ParameterOf, Ports, Nets, Registers, Integers, Parameters, ItemTree, ItemAt, HeaderPortTree, HeaderPortOf, HeaderParameterTree, HeaderParameterOf, HeaderPortsTree, NamedPorts, DeclaredPorts, ModuleTree, ModuleOf}
use Rattle.v_flat.specs.declared.scope.meaning.Meaning.TheVariants.{Later}
use Rattle.v_flat.specs.Scope.Scope.{Scope}

abbrev pub module_name : ModuleTree → Identifier
module_name (ModuleOf n ps ports is) = n

abbrev pub items_in : ModuleTree → List ItemTree
items_in (ModuleOf n ps ports is) = is

abbrev pub ports_in : ModuleTree → HeaderPortsTree
ports_in (ModuleOf n ps ports is) = ports

abbrev pub name_of : Identifier → List ℕ
name_of i = i.name

-- ---- ports (clause 12.3)

-- a port of a header that declares it; one without a head has the head before it (clause 12.3.4)
pub record HeadedPort : Type 0 where
  pub head : PortHeadTree
  pub name : Identifier

abbrev pub head_or : Option PortHeadTree → PortHeadTree → PortHeadTree
head_or (Some h) g = h
head_or None g = g

abbrev pub headed : PortHeadTree → List HeaderPortTree → List HeadedPort
headed g [] = []
headed g (HeaderPortOf h i ∷ ps) = record { head = head_or h g; name = i } ∷ headed (head_or h g) ps

abbrev pub first_head : PortHeadTree
first_head = Head direction.Input None None

abbrev pub direction_of : PortHeadTree → Direction
direction_of (Head d k r) = d

-- a port as an instance sees it; a direction may be missing
pub record Port : Type 0 where
  pub name : List ℕ
  pub direction : Option Direction

-- the direction that the items declare first (clause 12.3.3)
abbrev pub declared_direction : List ℕ → List ItemTree → Option Direction
declared_direction n [] = None
declared_direction n (ItemAt p (Ports h is) ∷ rest) =
    if list_any (bytes_eq n) (map name_of is) then Some (direction_of h) else declared_direction n rest
declared_direction n (ItemAt p k ∷ rest) = declared_direction n rest

abbrev pub headed_port : HeadedPort → Port
headed_port p = record { name = p.name.name; direction = Some (direction_of p.head) }

abbrev pub header_ports : HeaderPortsTree → List ItemTree → List Port
header_ports (NamedPorts ns) is = map (λ i. record { name = i.name; direction = declared_direction i.name is }) ns
header_ports (DeclaredPorts ps) is = map headed_port (headed first_head ps)

abbrev pub find_port : List ℕ → List Port → Option Port
find_port n [] = None
find_port n (p ∷ ps) = if bytes_eq p.name n then Some p else find_port n ps

abbrev pub port_name : Port → List ℕ
port_name p = p.name

-- those of the header, in its order; a name that stands there twice is two ports, and breaks a rule in the declarations
abbrev pub ports_of : ModuleTree → List Port
ports_of m = header_ports (ports_in m) (items_in m)

-- ---- parameters, in their order (clause 4.10)

pub record Parameter : Type 0 where
  pub is_local : Bool
  pub range : Option RangeTree
  pub name : Identifier
  pub value : Tree

abbrev pub range_or : Option (Option RangeTree) → Option RangeTree → Option RangeTree
range_or (Some r) before = r
range_or None before = before

-- one without a head has the range before it
abbrev pub header_parameters : Option RangeTree → List HeaderParameterTree → List Parameter
header_parameters before [] = []
header_parameters before (HeaderParameterOf h i e ∷ ps) =
    record { is_local = false; range = range_or h before; name = i; value = e } ∷ header_parameters (range_or h before) ps

abbrev pub is_local : ParameterKind → Bool
is_local parameter_kind.Parameter = false
is_local parameter_kind.LocalParam = true

abbrev pub in_line : ParameterKind → Option RangeTree → ParameterTree → Parameter
in_line k r (ParameterOf i e) = record { is_local = is_local k; range = r; name = i; value = e }

abbrev pub item_parameters : List ItemTree → List Parameter
item_parameters [] = []
item_parameters (ItemAt p (Parameters k r ps) ∷ rest) = map (in_line k r) ps ++ item_parameters rest
item_parameters (ItemAt p k ∷ rest) = item_parameters rest

abbrev pub parameters_of : ModuleTree → List Parameter
parameters_of (ModuleOf n ps ports is) = header_parameters None ps ++ item_parameters is

-- those that an override may name, in order (clauses 4.10.2 and 12.2.2)
abbrev pub open_parameters : List Parameter → List (List ℕ)
open_parameters [] = []
open_parameters (p ∷ ps) = if p.is_local then open_parameters ps else p.name.name ∷ open_parameters ps

-- ---- all names of parameters, nets, registers and memories (clause 4.11)

abbrev pub net_name : NetTree → List ℕ
net_name (NetOf i e) = i.name

abbrev pub register_name : RegisterTree → List ℕ
register_name (RegisterOf i t) = i.name

abbrev pub names_in : List ItemTree → List (List ℕ)
names_in [] = []
names_in (ItemAt p (Ports h is) ∷ rest) = map name_of is ++ names_in rest
names_in (ItemAt p (Nets r ds) ∷ rest) = map net_name ds ++ names_in rest
names_in (ItemAt p (Registers r ds) ∷ rest) = map register_name ds ++ names_in rest
names_in (ItemAt p (Integers is) ∷ rest) = map name_of is ++ names_in rest
names_in (ItemAt p k ∷ rest) = names_in rest

abbrev pub header_names : HeaderPortsTree → List (List ℕ)
header_names (NamedPorts ns) = []
header_names (DeclaredPorts ps) = map (λ p. p.name.name) (headed first_head ps)

abbrev pub all_names : ModuleTree → List (List ℕ)
all_names m = map (λ p. p.name.name) (parameters_of m) ++ (header_names (ports_in m) ++ names_in (items_in m))

-- where constants alone are known, each declared name is no constant
abbrev pub later : List (List ℕ) → Scope
later ns n = if list_any (bytes_eq n) ns then Some Later else None
