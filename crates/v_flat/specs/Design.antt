-- The walk from the top: the design that a text stands for, or the first rule that it breaks (IEEE 1364-2005, clauses 12.1 to 12.3 and
-- 12.8).
use Rattle.std.specs.Prelude.{◌≡◌, ℕ, zero, suc, ◌+◌, List, [], ◌∷◌, ◌++◌, drop, map, length, Option, None, Some, Result, Ok, Err, Bool, ◌&&◌, not, is_some, is_none, nat_le, nat_lt, bytes_eq, slice_set, slice_index_or, if◌then◌else◌}
use Rattle.std.specs.List.{filter, flat_map, list_any, range_with_len}
use Rattle.four_value.specs.declared.Digit.{Digit}
use Rattle.four_value.specs.declared.Digit.TheVariants.{X, Z}
use Rattle.four_value.specs.Vector.{resize}
use Rattle.gpi.specs.declared.types.SigId.{SigId}
use Rattle.gpi.specs.declared.design.Spot.{Spot}
use Rattle.gpi.specs.declared.design.Spot.TheVariants as spot
use Rattle.gpi.specs.declared.design.Kind.TheVariants as process_kind
use Rattle.gpi.specs.declared.design.Wake.{Wake}
use Rattle.gpi.specs.declared.design.WakeEdge.{WakeEdge}
use Rattle.gpi.specs.declared.design.WakeEdge.TheVariants as wake_edge
use Rattle.gpi.specs.Activation.{Map, Hidden, Run, blocking}
use Rattle.gpi.specs.Targets.{whole_update}
use Rattle.gpi.specs.Terms.{read}
use Rattle.gpi.specs.declared.design.Flat.{Flat}
use Rattle.gpi.specs.Design.{Proc, procs_of}
use Rattle.v_syntax.specs.declared.statement.Identifier.{Identifier}
use Rattle.v_syntax.specs.declared.item.Direction.{Direction}
use Rattle.v_syntax.specs.declared.item.Direction.TheVariants as direction
use Rattle.v_syntax.specs.declared.item.Edge.{Edge}
use Rattle.v_syntax.specs.declared.item.Edge.TheVariants as edge
use Rattle.v_syntax.specs.declared.item.Event.{Event}
use Rattle.v_syntax.specs.ExpressionTrees.{Tree, Whole, TargetTree, NamedTarget, first_at}
use Rattle.v_syntax.specs.StatementTrees.{StatementTree}
use Rattle.v_syntax.specs.SourceTrees.{NetTree, Net as NetOf, Initially, RegisterTree, Register as RegisterOf, DriverTree, Driver, ControlTree, Implicit, Events, ConnectionTree, Connection, ConnectionsTree, Ordered, Named as NamedConnections, KindTree, Nets, Registers, Drivers, Always, Initial, Instance, ItemTree, ItemAt, ModuleTree}
use Rattle.v_flat.specs.declared.scope.rule.Broken.{Broken}
use Rattle.v_flat.specs.declared.scope.rule.ElabRule.{ElabRule}
use Rattle.v_flat.specs.declared.scope.rule.ElabRule.TheVariants as rule
use Rattle.v_flat.specs.declared.scope.found.Found.{Found}
use Rattle.v_flat.specs.declared.scope.found.Found.TheVariants.{Sound}
use Rattle.v_flat.specs.Scope.Rules.{at}
use Rattle.v_flat.specs.Scope.Found.{fine, lost, each, both, and_then, broken, wants, needs, ended, next}
use Rattle.v_flat.specs.declared.scope.meaning.Bounds.{Bounds}
use Rattle.v_flat.specs.declared.scope.meaning.DataKind.{DataKind}
use Rattle.v_flat.specs.declared.scope.meaning.DataKind.TheVariants.{Input, Net, Register}
use Rattle.v_flat.specs.declared.scope.meaning.DataObject.{DataObject}
use Rattle.v_flat.specs.declared.scope.meaning.Meaning.{Meaning}
use Rattle.v_flat.specs.declared.scope.meaning.Meaning.TheVariants.{Constant, Object, Later}
use Rattle.v_flat.specs.Scope.Limits.{most_parts}
use Rattle.v_flat.specs.Scope.Scope.{width_of, low_of, Scope, find, means, nothing}
use Rattle.v_flat.specs.Objects.{count_of}
use Rattle.v_flat.specs.Checks.{checked, constant_of}
use Rattle.v_flat.specs.Targets.{Drive, Driving, driving, as_target, target_width, updates}
use Rattle.v_flat.specs.declared.timing.Timing.{Timing}
use Rattle.v_flat.specs.Delays.{nanosecond}
use Rattle.v_flat.specs.Statements.{Span, reads, statement_reads, statement_checked, assigned_updates, assigned_value, activation, done}
use Rattle.v_flat.specs.Headers.{Port, find_port, ports_of, parameters_of, open_parameters, all_names, later, module_name, items_in}
use Rattle.v_flat.specs.Declarations.{Entries, Given, parameters, Declared, Place, declarations, in_order, kind_of}
use Rattle.v_flat.specs.Paths.{Path, SignalAt, NodeAt, below, signal_of, node_of}

-- ---- a design

-- its signals, instances and processes, by their numbers
pub record Design : Type 0 where
  pub signals : List SignalAt
  pub nodes : List NodeAt
  pub processes : List Proc

abbrev pub no_design : Design
no_design = record { signals = []; nodes = []; processes = [] }

-- the number of a signal, as the code writes it
abbrev pub sig : ℕ → SigId
sig n = record { 0 = n }

-- ---- signals (clauses 4.2 and 4.9)

abbrev pub start_of : DataKind → Digit
start_of Register = X
start_of Input = Z
start_of Net = Z

-- the words of a memory, by rising index
abbrev pub word_signals : Path → ℕ → Digit → ℕ → ℕ → List SignalAt
word_signals path w start i zero = []
word_signals path w start i (suc n) = record { path = path; word = Some i; width = w; start = start } ∷ word_signals path w start (i + 1) n

abbrev pub signals_of : Path → DataObject → Option Bounds → List SignalAt
signals_of path o None = record { path = path; word = None; width = width_of o.bounds; start = start_of o.kind } ∷ []
signals_of path o (Some w) = word_signals path (width_of o.bounds) (start_of o.kind) (low_of w) (width_of w)

abbrev pub spot_of : DataObject → Option Bounds → Spot
spot_of o None = spot.Sig (sig o.first)
spot_of o (Some w) = spot.Words (sig o.first) (low_of w) (width_of w)

abbrev pub object_of : ℕ → Declared → DataObject
object_of first d = record { kind = kind_of d.direction d.sort; first = first; bounds = d.bounds; words = d.words }

-- numbered from first on
abbrev pub entries : ℕ → List Declared → Entries
entries first [] = []
entries first (d ∷ ds) = (d.name, Object (object_of first d)) ∷ entries (first + count_of d.words) ds

abbrev pub all_signals : Path → ℕ → List Declared → List SignalAt
all_signals path first [] = []
all_signals path first (d ∷ ds) = signals_of (below path d.name) (object_of first d) d.words ++ all_signals path (first + count_of d.words) ds

abbrev pub children : ℕ → List Declared → List (List ℕ × Spot)
children first [] = []
children first (d ∷ ds) = (d.name, spot_of (object_of first d) d.words) ∷ children (first + count_of d.words) ds

-- ---- wakes (clause 9.7)

abbrev pub is_read : ℕ → List Span → Bool
is_read n xs = list_any (λ x. nat_le x.first n && nat_lt n (x.first + x.count)) xs

abbrev pub any_change : ℕ → Wake
any_change n = record { sig = sig n; edge = wake_edge.Any }

-- any change of a signal that is read, by rising number (clause 9.7.5)
abbrev pub wakes_of : List Span → Design → List Wake
wakes_of xs d = map any_change (filter (λ n. is_read n xs) (range_with_len 0 (length d.signals)))

abbrev pub wake_edge_of : Option Edge → WakeEdge
wake_edge_of None = wake_edge.Any
wake_edge_of (Some edge.Positive) = wake_edge.Pos
wake_edge_of (Some edge.Negative) = wake_edge.Neg

abbrev pub wake_in : Event → DataObject → Option Bounds → Found Wake
wake_in e o None = Sound (record { sig = sig o.first; edge = wake_edge_of e.edge })
wake_in e o (Some w) = broken rule.BadRange e.name.at

abbrev pub wake_by : Event → Option Meaning → Found Wake
wake_by e None = broken rule.UnknownName e.name.at
wake_by e (Some Later) = broken rule.UnknownName e.name.at
wake_by e (Some (Constant ds b)) = broken rule.BadRange e.name.at
wake_by e (Some (Object o)) = wake_in e o o.words

abbrev pub events_of : Scope → List Event → Found (List Wake)
events_of s [] = Sound []
events_of s (e ∷ es) = each (λ x. x.0 ∷ x.1) (both (wake_by e (find e.name.name s)) (events_of s es))

-- ---- processes (clauses 6.1 and 9.9)

abbrev pub from : Map → Hidden → Run
from m h = record { signals = m; hidden = h; updates = [] }

-- a continuous assignment waits for what its expression reads (clause 6.1.2)
abbrev pub assigning : Scope → TargetTree → Tree → Design → Proc
assigning s t e d = record { kind = process_kind.Assign; wakes = wakes_of (reads s e) d; run = λ m h. blocking (assigned_updates s t e (read m)) (from m h) }

abbrev pub beginning : Scope → TargetTree → Tree → Proc
beginning s t e = record { kind = process_kind.Initial; wakes = []; run = λ m h. blocking (assigned_updates s t e (read m)) (from m h) }

abbrev pub with_process : Proc → Design → Design
with_process p d = record d { processes = d.processes ++ (p ∷ []) }

-- ---- the items of one instance

pub record State : Type 0 where
  pub scope : Scope
  pub design : Design
  pub driven : List Drive
  pub children : List (List ℕ × Spot)

abbrev pub whole_of : Identifier → TargetTree
whole_of i = NamedTarget i.at i.name Whole

abbrev pub adding : Proc → List Drive → State → State
adding p driven s = record { scope = s.scope; design = with_process p s.design; driven = driven; children = s.children }

abbrev pub driven_by : Driving → TargetTree → Tree → State → Found State
driven_by x t e s = each (λ w. adding (assigning s.scope t e s.design) x.driven s) (both x.width (checked s.scope e))

abbrev pub driver : DriverTree → State → Found State
driver (Driver t e) s = driven_by (driving None s.scope t s.driven) t e s

-- wire n = e (clause 6.1.1)
abbrev pub net : NetTree → State → Found State
net (NetOf i None) s = Sound s
net (NetOf i (Some e)) s = driver (Driver (whole_of i) e) s

-- reg n = e (clause 6.2.1)
abbrev pub register : RegisterTree → State → Found State
register (RegisterOf i (Some (Initially e))) s = each (λ w. adding (beginning s.scope (whole_of i) e) s.driven s) (checked s.scope e)
register (RegisterOf i _) s = Sound s

-- one after the other
abbrev pub in_turn : {A : Type 0} → (A → State → Found State) → List A → State → Found State
in_turn f [] s = Sound s
in_turn f (a ∷ rest) s = and_then (f a s) (in_turn f rest)

-- q is the timing of the module
abbrev pub running : Timing → Scope → StatementTree → Map → Hidden → Run
running q s a m h = activation q s a (from m h)

abbrev pub always : Timing → List Wake → StatementTree → State → State
always q ws a s = adding (record { kind = process_kind.Always; wakes = ws; run = running q s.scope a }) s.driven s

abbrev pub always_item : Timing → ControlTree → StatementTree → State → Found State
always_item q Implicit a s = each (λ u. always q (wakes_of (statement_reads s.scope a) s.design) a s) (statement_checked q s.scope a)
always_item q (Events es) a s = each (λ x. always q x.0 a s) (both (events_of s.scope es) (statement_checked q s.scope a))

abbrev pub initial_item : Timing → StatementTree → State → Found State
initial_item q a s = each (λ u. adding (record { kind = process_kind.Initial; wakes = []; run = running q s.scope a }) s.driven s) (statement_checked q s.scope a)

-- the processes that an item gives
abbrev pub net_count : List NetTree → ℕ
net_count [] = 0
net_count (NetOf i None ∷ ns) = net_count ns
net_count (NetOf i (Some e) ∷ ns) = suc (net_count ns)

abbrev pub register_count : List RegisterTree → ℕ
register_count [] = 0
register_count (RegisterOf i (Some (Initially e)) ∷ rs) = suc (register_count rs)
register_count (RegisterOf i t ∷ rs) = register_count rs

-- there is room for so many more processes; p is the place of the item
abbrev pub with_room : {A : Type 0} → ℕ → ℕ → Design → Found A → Found A
with_room p n d x = wants (nat_le (length d.processes + n) most_parts) rule.TooMany p x

-- an item that is no instance
abbrev pub plain_item : Timing → ℕ → KindTree → State → Found State
plain_item q p (Nets r ns) s = with_room p (net_count ns) s.design (in_turn net ns s)
plain_item q p (Registers r rs) s = with_room p (register_count rs) s.design (in_turn register rs s)
plain_item q p (Drivers ds) s = with_room p (length ds) s.design (in_turn driver ds s)
plain_item q p (Always c a) s = with_room p 1 s.design (always_item q c a s)
plain_item q p (Initial a) s = with_room p 1 s.design (initial_item q a s)
plain_item q p _ s = Sound s

-- ---- instances: parameters (clause 12.2.2)

abbrev pub one_more : List ℕ → List Digit × List Given → List Given
one_more n x = record { name = n; value = x.0 } ∷ x.1

abbrev pub ordered_given : Scope → List Tree → List (List ℕ) → Found (List Given)
ordered_given s [] ns = Sound []
ordered_given s (e ∷ es) [] = lost (at rule.BadPort (first_at e)) (constant_of s e)
ordered_given s (e ∷ es) (n ∷ ns) = each (one_more n) (both (constant_of s e) (ordered_given s es ns))

abbrev pub named_value : Scope → List ℕ → Option Tree → Found (List Given) → Found (List Given)
named_value s n None x = x
named_value s n (Some e) x = each (one_more n) (both (constant_of s e) x)

abbrev pub named_given : Scope → List (List ℕ) → List (List ℕ) → List ConnectionTree → Found (List Given)
named_given s ns seen [] = Sound []
named_given s ns seen (Connection p i v ∷ cs) =
    wants (list_any (bytes_eq i.name) ns && not (list_any (bytes_eq i.name) seen)) rule.BadPort i.at
    (named_value s i.name v (named_given s ns (i.name ∷ seen) cs))

abbrev pub given_of : Scope → Option ConnectionsTree → List (List ℕ) → Found (List Given)
given_of s None ns = Sound []
given_of s (Some (Ordered es)) ns = ordered_given s es ns
given_of s (Some (NamedConnections cs)) ns = named_given s ns [] cs

-- ---- instances: ports (clauses 12.3.5 to 12.3.9)

-- a port of the instance, and what it is joined to
pub record Joint : Type 0 where
  pub port : List ℕ
  pub value : Tree

pub record Joints : Type 0 where
  pub list : List Joint
  pub driven : List Drive

abbrev pub joint : List ℕ → Tree → Joints → Joints
joint n e x = record { list = record { port = n; value = e } ∷ x.list; driven = x.driven }

abbrev pub all_driven : Driving → Found (List Drive)
all_driven x = each (λ w. x.driven) x.width

abbrev pub output_joined : ℕ → Scope → Tree → List Drive → Option TargetTree → Found (List Drive)
output_joined q s e driven None = lost (at rule.BadTarget q) (checked s e)
output_joined q s e driven (Some t) = all_driven (driving (Some q) s t driven)

-- q is the connection's first token
abbrev pub joined : ℕ → Scope → Option Direction → Tree → List Drive → Found (List Drive)
joined q s (Some direction.Output) e driven = output_joined q s e driven (as_target e)
joined q s _ e driven = each (λ w. driven) (checked s e)

abbrev pub ordered_joints : Scope → List Tree → List Port → List Drive → Found Joints
ordered_joints s [] ps driven = Sound (record { list = []; driven = driven })
ordered_joints s (e ∷ es) [] driven = lost (at rule.BadPort (first_at e)) (checked s e)
ordered_joints s (e ∷ es) (p ∷ ps) driven =
    and_then (joined (first_at e) s p.direction e driven) (λ ds. each (joint p.name e) (ordered_joints s es ps ds))

-- a port that isn't there, or stood there before
abbrev pub port_once : Identifier → List (List ℕ) → Option Port → Option Port
port_once i seen None = None
port_once i seen (Some p) = if list_any (bytes_eq i.name) seen then None else Some p

abbrev pub value_checked : Scope → Option Tree → Found (Unit {0})
value_checked s None = fine
value_checked s (Some e) = done (checked s e)

abbrev pub named_joint : ℕ → Identifier → Scope → Option Port → Option Tree → List Drive → (List Drive → Found Joints) → Found Joints
named_joint q i s None v driven rest = lost (at rule.BadPort i.at) (value_checked s v)
named_joint q i s (Some p) None driven rest = rest driven
named_joint q i s (Some p) (Some e) driven rest = and_then (joined q s p.direction e driven) (λ ds. each (joint p.name e) (rest ds))

abbrev pub named_joints : Scope → List Port → List (List ℕ) → List ConnectionTree → List Drive → Found Joints
named_joints s ps seen [] driven = Sound (record { list = []; driven = driven })
named_joints s ps seen (Connection q i v ∷ cs) driven =
    named_joint q i s (port_once i seen (find_port i.name ps)) v driven (named_joints s ps (i.name ∷ seen) cs)

abbrev pub joints_of : Scope → Option ConnectionsTree → List Port → List Drive → Found Joints
joints_of s None ps driven = Sound (record { list = []; driven = driven })
joints_of s (Some (Ordered es)) ps driven = ordered_joints s es ps driven
joints_of s (Some (NamedConnections cs)) ps driven = named_joints s ps [] cs driven

-- how many assignments the connection of a port makes: that of an output to what is no target makes none
abbrev pub joint_made : Option Direction → Tree → ℕ
joint_made (Some direction.Output) e = if is_some (as_target e) then 1 else 0
joint_made d e = 1

abbrev pub ordered_count : List Tree → List Port → ℕ
ordered_count [] ps = 0
ordered_count (e ∷ es) [] = 0
ordered_count (e ∷ es) (p ∷ ps) = joint_made p.direction e + ordered_count es ps

abbrev pub named_made : Option Port → Option Tree → ℕ
named_made (Some p) (Some e) = joint_made p.direction e
named_made p e = 0

abbrev pub named_count : List Port → List (List ℕ) → List ConnectionTree → ℕ
named_count ps seen [] = 0
named_count ps seen (Connection q i v ∷ cs) = named_made (port_once i seen (find_port i.name ps)) v + named_count ps (i.name ∷ seen) cs

-- how many assignments all of them make; one to a port that isn't there, or stood there before, makes none
abbrev pub joint_count : Option ConnectionsTree → List Port → ℕ
joint_count None ps = 0
joint_count (Some (Ordered es)) ps = ordered_count es ps
joint_count (Some (NamedConnections cs)) ps = named_count ps [] cs

-- what a port is joined to
abbrev pub find_joint : List ℕ → List Joint → Option Tree
find_joint n [] = None
find_joint n (j ∷ js) = if bytes_eq j.port n then Some j.value else find_joint n js

-- an input is assigned the value of its connection; o is the port (clause 12.3.9.2)
abbrev pub input_run : Scope → DataObject → Tree → Map → Hidden → Run
input_run outer o e m h = blocking (whole_update (Some o.first) (assigned_value (width_of o.bounds) outer e (read m))) (from m h)

abbrev pub input_joint : Scope → DataObject → Tree → Design → Design
input_joint outer o e d = with_process (record { kind = process_kind.Assign; wakes = wakes_of (reads outer e) d; run = input_run outer o e }) d

-- what an output is connected to is assigned its value (clause 12.3.9.2)
abbrev pub output_run : Scope → DataObject → TargetTree → Map → Hidden → Run
output_run outer o t m h = blocking (updates outer t (read m) (resize (read m o.first) (target_width outer t))) (from m h)

abbrev pub output_target : Scope → DataObject → Option TargetTree → Design → Design
output_target outer o None d = d
output_target outer o (Some t) d = with_process (record { kind = process_kind.Assign; wakes = any_change o.first ∷ []; run = output_run outer o t }) d

abbrev pub port_joint : Scope → Option Tree → Option Direction → Option Meaning → Design → Design
port_joint outer (Some e) (Some direction.Output) (Some (Object o)) d = output_target outer o (as_target e) d
port_joint outer (Some e) c (Some (Object o)) d = input_joint outer o e d
port_joint outer _ c _ d = d

-- the assignments of the connected ports, in the order of ports; outer is the scope of the connections, and s that of the ports
abbrev pub port_joints : Scope → List Joint → Scope → List Port → Design → Design
port_joints outer js s [] d = d
port_joints outer js s (p ∷ ps) d = port_joints outer js s ps (port_joint outer (find_joint p.name js) p.direction (find p.name s) d)

-- ---- the walk (clauses 12.1.2 and 12.8)

-- the modules of a text, the unit of time of each, and the step, in femtoseconds
pub record Modules : Type 0 where
  pub list : List ModuleTree
  pub units : List ℕ
  pub step_fs : ℕ

-- the unit of the module of a name (clause 19.8)
abbrev pub unit_of : List ℕ → List ModuleTree → List ℕ → ℕ
unit_of n [] us = nanosecond
unit_of n (m ∷ ms) us = if bytes_eq (module_name m).name n then slice_index_or us 0 nanosecond else unit_of n ms (drop 1 us)

abbrev pub timing_of : Modules → List ℕ → Timing
timing_of ms n = record { unit_fs = unit_of n ms.list ms.units; step_fs = ms.step_fs }

abbrev pub find_module : List ℕ → List ModuleTree → Option ModuleTree
find_module n [] = None
find_module n (m ∷ ms) = if bytes_eq (module_name m).name n then Some m else find_module n ms

-- what an instance is given from outside
pub record Outside : Type 0 where
  pub given : List Given
  pub scope : Scope
  pub joints : List Joint

-- a walk over an instance: the modules above it and its own, the module, its path, what it is given
abbrev pub Sub : Type 0
Sub = List (List ℕ) → ModuleTree → Path → Outside → Design → Result Design Broken

-- the module of an instance; room is the number of levels that may stand below
abbrev pub module_there : Identifier → ℕ → List (List ℕ) → Design → Option ModuleTree → Found ModuleTree
module_there i room above d None = broken rule.UnknownModule i.at
module_there i room above d (Some m) =
    needs (not (list_any (bytes_eq i.name) above)) rule.RecursiveInstance i.at
    (needs (nat_lt 0 room && nat_lt (length d.nodes) most_parts) rule.TooMany i.at (Sound m))

abbrev pub child_name : List ℕ × Spot → List ℕ
child_name c = c.0

abbrev pub is_fresh : List ℕ → State → Bool
is_fresh n s = is_none (find n s.scope) && not (list_any (bytes_eq n) (map child_name s.children))

-- what is found in the item before its subtree is walked
abbrev pub instance_checked : ℕ → Option ConnectionsTree → Identifier → Option ConnectionsTree → State → ModuleTree → Found (List Given × Joints)
instance_checked p values i ports s m =
    with_room p (joint_count ports (ports_of m)) s.design (wants (is_fresh i.name s) rule.DuplicateName i.at
    (both (given_of s.scope values (open_parameters (parameters_of m))) (joints_of s.scope ports (ports_of m) s.driven)))

abbrev pub with_child : List ℕ → ℕ → List Drive → State → Design → State
with_child n node driven s d = record { scope = s.scope; design = d; driven = driven; children = s.children ++ ((n, spot.Inner node) ∷ []) }

abbrev pub instance_item : Sub → ℕ → Modules → List (List ℕ) → Path → ℕ → Identifier → Option ConnectionsTree → Identifier → Option ConnectionsTree → State → Result State Broken
instance_item sub room ms above path p m values i ports s =
    next (ended (module_there m room above s.design (find_module m.name ms.list))) (λ inner.
    next (ended (instance_checked p values i ports s inner)) (λ x.
    next (sub (m.name ∷ above) inner (below path i.name) (record { given = x.0; scope = s.scope; joints = x.1.list }) s.design) (λ d.
    Ok (with_child i.name (length s.design.nodes) x.1.driven s d))))

abbrev pub item : Timing → Sub → ℕ → Modules → List (List ℕ) → Path → ItemTree → State → Result State Broken
item q sub room ms above path (ItemAt p (Instance m values i ports)) s = instance_item sub room ms above path p m values i ports s
item q sub room ms above path (ItemAt p k) s = ended (plain_item q p k s)

abbrev pub items : Timing → Sub → ℕ → Modules → List (List ℕ) → Path → List ItemTree → State → Result State Broken
items q sub room ms above path [] s = Ok s
items q sub room ms above path (i ∷ is) s = next (item q sub room ms above path i s) (items q sub room ms above path is)

-- its node stands before those of its subtree
abbrev pub opened : Path → List Declared → Design → Design
opened path ds d = record {
  signals = d.signals ++ all_signals path (length d.signals) ds;
  nodes = d.nodes ++ (record { path = path; children = [] } ∷ []);
  processes = d.processes;
}

abbrev pub closed : Path → ℕ → State → Design
closed path node s = record s.design { nodes = slice_set s.design.nodes node (record { path = path; children = s.children }) }

-- the declared names are known: the connected ports, then the items
abbrev pub walk_items : Sub → ℕ → Modules → List (List ℕ) → ModuleTree → Path → Outside → Design → Scope → List Declared → Result Design Broken
walk_items sub room ms above m path out d s ds =
    next (items (timing_of ms (module_name m).name) sub room ms above path (items_in m) (record {
      scope = s;
      design = port_joints out.scope out.joints s (ports_of m) (opened path ds d);
      driven = [];
      children = children (length d.signals) ds;
    })) (λ t. Ok (closed path (length d.nodes) t))

abbrev pub place_of : ModuleTree → Entries → Design → Place
place_of m constants d = record { constants = constants; others = later (all_names m); ports = ports_of m; first = length d.signals }

-- the parameters, the declarations, the items
abbrev pub instance : Sub → ℕ → Modules → Sub
instance sub room ms above m path out d =
    next (parameters (parameters_of m) out.given (later (all_names m)) []) (λ constants.
    next (declarations (place_of m constants d) m) (λ ds.
    walk_items sub room ms above m path out d (means (constants ++ entries (length d.signals) (in_order (ports_of m) ds))) (in_order (ports_of m) ds)))

unfoldable pub walk : Modules → ℕ → Sub
walk ms zero above m path out d = instance (λ a n q o e. Ok e) 0 ms above m path out d
walk ms (suc room) above m path out d = instance (walk ms room) (suc room) ms above m path out d

-- ---- the top (clause 12.1.1)

abbrev pub instance_names : List ItemTree → List (List ℕ)
instance_names [] = []
instance_names (ItemAt p (Instance m values i ports) ∷ is) = m.name ∷ instance_names is
instance_names (ItemAt p k ∷ is) = instance_names is

abbrev pub used_modules : List ModuleTree → List (List ℕ)
used_modules ms = flat_map (λ m. instance_names (items_in m)) ms

abbrev pub unused : List (List ℕ) → List ModuleTree → List ModuleTree
unused ns ms = filter (λ m. not (list_any (bytes_eq (module_name m).name) ns)) ms

abbrev pub only : List ModuleTree → Option ModuleTree
only (m ∷ []) = Some m
only _ = None

abbrev pub top_of : List ModuleTree → Option (List ℕ) → Option ModuleTree
top_of ms (Some n) = find_module n ms
top_of ms None = only (unused (used_modules ms) ms)

-- the second module of a name
abbrev pub modules_checked : List (List ℕ) → List ModuleTree → Result (Unit {0}) Broken
modules_checked seen [] = Ok tt
modules_checked seen (m ∷ ms) =
    next (ended (needs (not (list_any (bytes_eq (module_name m).name) seen)) rule.DuplicateName (module_name m).at fine)) (λ u.
    modules_checked ((module_name m).name ∷ seen) ms)

abbrev pub from_top : Modules → Option ModuleTree → Result Design Broken
from_top ms None = ended (broken rule.NoTop 0)
from_top ms (Some m) = walk ms 64 ((module_name m).name ∷ []) m ((module_name m).name ∷ []) (record { given = []; scope = nothing; joints = [] }) no_design

-- the design of modules; places are numbers of tokens
abbrev pub flat_design : Modules → Option (List ℕ) → Result Design Broken
flat_design ms top = next (modules_checked [] ms.list) (λ u. from_top ms (top_of ms.list top))

-- ---- a whole text

-- the modules of a text, the byte at which each of its tokens begins, the unit of each module, and the step, in femtoseconds
pub record SourceText : Type 0 where
  pub modules : List ModuleTree
  pub places : List ℕ
  pub units : List ℕ
  pub step_fs : ℕ

abbrev pub modules_in : SourceText → Modules
modules_in text = record { list = text.modules; units = text.units; step_fs = text.step_fs }

-- where a rule is broken, as a byte; NoTop is broken at the text's beginning
abbrev pub byte_of : ElabRule → List ℕ → ℕ → ℕ
byte_of rule.NoTop places p = 0
byte_of r places p = slice_index_or places p 0

-- the first broken rule with its byte, or the design that the text stands for under this top
abbrev pub in_bytes : {A : Type 0} → List ℕ → Result A Broken → Result A Broken
in_bytes places (Ok a) = Ok a
in_bytes places (Err b) = Err (record { rule = b.rule; place = byte_of b.rule places b.place })

abbrev pub flatten : SourceText → Option (List ℕ) → Result Design Broken
flatten text top = in_bytes text.places (flat_design (modules_in text) top)

-- a flat design stands for a design
pub record StandsFor (flat : Flat) (d : Design) (step_fs : ℕ) : Type 0 where
  pub signals : flat.signals ≡ map signal_of d.signals
  pub nodes : flat.nodes ≡ map node_of d.nodes
  pub processes : procs_of flat.processes ≡ d.processes
  pub step : flat.step_fs ≡ step_fs
