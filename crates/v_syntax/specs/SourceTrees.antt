-- Items, modules and texts as trees, without where they lie in memory (IEEE 1364-2005, annexes A.1 to A.4). The names are those of the
-- code's types.
use Rattle.std.specs.Prelude.{ℕ, List, Option, map, option_map}
use Rattle.v_syntax.specs.declared.statement.Identifier.{Identifier}
use Rattle.v_syntax.specs.declared.item.Range.{Range}
use Rattle.v_syntax.specs.declared.item.Direction.{Direction}
use Rattle.v_syntax.specs.declared.item.PortKind.{PortKind}
use Rattle.v_syntax.specs.declared.item.PortHead.{PortHead}
use Rattle.v_syntax.specs.declared.item.NetDeclarator.{NetDeclarator}
use Rattle.v_syntax.specs.declared.item.RegisterTail.{RegisterTail}
use Rattle.v_syntax.specs.declared.item.RegisterTail.TheVariants as code_tail
use Rattle.v_syntax.specs.declared.item.RegisterDeclarator.{RegisterDeclarator}
use Rattle.v_syntax.specs.declared.item.ParameterKind.{ParameterKind}
use Rattle.v_syntax.specs.declared.item.ParameterAssignment.{ParameterAssignment}
use Rattle.v_syntax.specs.declared.item.ContinuousAssignment.{ContinuousAssignment}
use Rattle.v_syntax.specs.declared.item.Event.{Event}
use Rattle.v_syntax.specs.declared.item.EventControl.{EventControl}
use Rattle.v_syntax.specs.declared.item.EventControl.TheVariants as code_control
use Rattle.v_syntax.specs.declared.item.NamedConnection.{NamedConnection}
use Rattle.v_syntax.specs.declared.item.Connections.{Connections}
use Rattle.v_syntax.specs.declared.item.Connections.TheVariants as code_connections
use Rattle.v_syntax.specs.declared.item.ItemKind.{ItemKind}
use Rattle.v_syntax.specs.declared.item.ItemKind.TheVariants as code_item
use Rattle.v_syntax.specs.declared.item.Item.{Item}
use Rattle.v_syntax.specs.declared.source.HeaderPort.{HeaderPort}
use Rattle.v_syntax.specs.declared.source.ParameterHead.{ParameterHead}
use Rattle.v_syntax.specs.declared.source.HeaderParameter.{HeaderParameter}
use Rattle.v_syntax.specs.declared.source.HeaderPorts.{HeaderPorts}
use Rattle.v_syntax.specs.declared.source.HeaderPorts.TheVariants as code_ports
use Rattle.v_syntax.specs.declared.source.Module.{Module}
use Rattle.v_syntax.specs.declared.source.Source.{Source}
use Rattle.v_syntax.specs.ExpressionTrees.{Tree, TargetTree}
use Rattle.v_syntax.specs.ExpressionTrees as expression
use Rattle.v_syntax.specs.StatementTrees.{StatementTree}
use Rattle.v_syntax.specs.StatementTrees as statement

-- ---- items

-- the number of the `[`, and the bounds
pub data RangeTree : Type 0 where
  Bounds : ℕ → Tree → Tree → RangeTree

pub data PortHeadTree : Type 0 where
  Head : Direction → Option PortKind → Option RangeTree → PortHeadTree

pub data NetTree : Type 0 where
  Net : Identifier → Option Tree → NetTree

pub data TailTree : Type 0 where
  Words : RangeTree → TailTree
  Initially : Tree → TailTree

pub data RegisterTree : Type 0 where
  Register : Identifier → Option TailTree → RegisterTree

pub data ParameterTree : Type 0 where
  Parameter : Identifier → Tree → ParameterTree

pub data DriverTree : Type 0 where
  Driver : TargetTree → Tree → DriverTree

pub data ControlTree : Type 0 where
  Implicit : ControlTree
  Events : List Event → ControlTree

-- the number of the `.`, the port, and what it is joined to
pub data ConnectionTree : Type 0 where
  Connection : ℕ → Identifier → Option Tree → ConnectionTree

pub data ConnectionsTree : Type 0 where
  Ordered : List Tree → ConnectionsTree
  Named : List ConnectionTree → ConnectionsTree

pub data KindTree : Type 0 where
  Ports : PortHeadTree → List Identifier → KindTree
  Nets : Option RangeTree → List NetTree → KindTree
  Registers : Option RangeTree → List RegisterTree → KindTree
  Integers : List Identifier → KindTree
  Parameters : ParameterKind → Option RangeTree → List ParameterTree → KindTree
  Drivers : List DriverTree → KindTree
  Always : ControlTree → StatementTree → KindTree
  Initial : StatementTree → KindTree
  -- the module's name, its parameters, the instance's name, its ports
  Instance : Identifier → Option ConnectionsTree → Identifier → Option ConnectionsTree → KindTree

-- the number of the first token, and the item
pub data ItemTree : Type 0 where
  ItemAt : ℕ → KindTree → ItemTree

-- ---- modules

pub data HeaderPortTree : Type 0 where
  HeaderPortOf : Option PortHeadTree → Identifier → HeaderPortTree

-- a head holds the range behind the word `parameter`
pub data HeaderParameterTree : Type 0 where
  HeaderParameterOf : Option (Option RangeTree) → Identifier → Tree → HeaderParameterTree

pub data HeaderPortsTree : Type 0 where
  NamedPorts : List Identifier → HeaderPortsTree
  DeclaredPorts : List HeaderPortTree → HeaderPortsTree

pub data ModuleTree : Type 0 where
  ModuleOf : Identifier → List HeaderParameterTree → HeaderPortsTree → List ItemTree → ModuleTree

-- ---- the trees of the code's values

abbrev pub view_range : Range → RangeTree
view_range r = Bounds r.at (expression.view r.left) (expression.view r.right)

abbrev pub view_head : PortHead → PortHeadTree
view_head h = Head h.direction h.kind (option_map view_range h.range)

abbrev pub view_net : NetDeclarator → NetTree
view_net d = Net d.name (option_map expression.view d.value)

abbrev pub view_tail : RegisterTail → TailTree
view_tail (code_tail.Words r) = Words (view_range r)
view_tail (code_tail.Value e) = Initially (expression.view e)

abbrev pub view_register : RegisterDeclarator → RegisterTree
view_register d = Register d.name (option_map view_tail d.tail)

abbrev pub view_parameter : ParameterAssignment → ParameterTree
view_parameter a = Parameter a.name (expression.view a.value)

abbrev pub view_driver : ContinuousAssignment → DriverTree
view_driver a = Driver (expression.view_target a.target) (expression.view a.value)

abbrev pub view_control : EventControl → ControlTree
view_control code_control.Implicit = Implicit
view_control (code_control.Events es) = Events es.items

abbrev pub view_connection : NamedConnection → ConnectionTree
view_connection c = Connection c.at c.port (option_map expression.view c.value)

abbrev pub view_connections : Connections → ConnectionsTree
view_connections (code_connections.Ordered es) = Ordered (map expression.view es.items)
view_connections (code_connections.Named cs) = Named (map view_connection cs.items)

abbrev pub view_kind : ItemKind → KindTree
view_kind (code_item.Ports head names) = Ports (view_head head) names.items
view_kind (code_item.Nets range ds) = Nets (option_map view_range range) (map view_net ds.items)
view_kind (code_item.Registers range ds) = Registers (option_map view_range range) (map view_register ds.items)
view_kind (code_item.Integers names) = Integers names.items
view_kind (code_item.Parameters kind range ps) = Parameters kind (option_map view_range range) (map view_parameter ps.items)
view_kind (code_item.ContinuousAssignments ds) = Drivers (map view_driver ds.items)
view_kind (code_item.Always events s) = Always (view_control events) (statement.view s)
view_kind (code_item.Initial s) = Initial (statement.view s)
view_kind (code_item.Instance module_name parameters name ports) =
    Instance module_name (option_map view_connections parameters) name (option_map view_connections ports)

abbrev pub view_item : Item → ItemTree
view_item i = ItemAt i.at (view_kind i.kind)

abbrev pub view_header_port : HeaderPort → HeaderPortTree
view_header_port p = HeaderPortOf (option_map view_head p.head) p.name

abbrev pub view_parameter_head : ParameterHead → Option RangeTree
view_parameter_head h = option_map view_range h.range

abbrev pub view_header_parameter : HeaderParameter → HeaderParameterTree
view_header_parameter p = HeaderParameterOf (option_map view_parameter_head p.head) p.name (expression.view p.value)

abbrev pub view_ports : HeaderPorts → HeaderPortsTree
view_ports (code_ports.Named names) = NamedPorts names.items
view_ports (code_ports.Declared ports) = DeclaredPorts (map view_header_port ports.items)

abbrev pub view_module : Module → ModuleTree
view_module m = ModuleOf m.name (map view_header_parameter m.parameters.items) (view_ports m.ports) (map view_item m.items.items)

-- A whole text is a list of modules.
abbrev pub view : Source → List ModuleTree
view s = map view_module s.modules.items
