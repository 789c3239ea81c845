-- A means of proof: a law of connected ports (IEEE 1364-2005, clause 12.3), for the proofs of elaboration.
use Rattle.std.specs.Prelude.{◌≡◌, ◌+◌, List, [], ◌++◌, Option, Ok, length}
use Rattle.v_syntax.specs.SourceTrees.{ConnectionsTree, ModuleTree}
use Rattle.v_flat.specs.declared.scope.found.Found.TheVariants.{Sound}
use Rattle.v_flat.specs.Scope.Scope.{Scope, means}
use Rattle.v_flat.specs.Targets.{Drive}
use Rattle.v_flat.specs.Headers.{all_names, later, parameters_of, ports_of}
use Rattle.v_flat.specs.Declarations.{Declared, Entries, Given, declarations, in_order, parameters}
use Rattle.v_flat.specs.Paths.{Path}
use Rattle.v_flat.specs.Design.{Design, Joints, entries, joint_count, joints_of, opened, place_of, port_joints}

-- where no rule is broken in the connections of an instance (x, made in the scope `outer`), nor in its parameters and declarations (ds, in their
-- order), its connected ports give as many processes as there was asked to be room for
abbrev pub Joints_are_counted : Type 0
Joints_are_counted = (outer : Scope) (c : Option ConnectionsTree) (m : ModuleTree) (driven : List Drive) (x : Joints) (given : List Given) (path : Path) (d : Design) (constants : Entries) (ds : List Declared)
    → joints_of outer c (ports_of m) driven ≡ Sound x → parameters (parameters_of m) given (later (all_names m)) [] ≡ Ok constants → declarations (place_of m constants d) m ≡ Ok ds
    → length (port_joints outer x.list (means (constants ++ entries (length d.signals) (in_order (ports_of m) ds))) (ports_of m) (opened path (in_order (ports_of m) ds) d)).processes
    ≡ length d.processes + joint_count c (ports_of m)
