-- A means of proof: how an instance begins (IEEE 1364-2005, clauses 12.1 to 12.3), for the proofs of elaboration: its parameters and
-- declarations, its signals and names, and the assignments of its connected ports.
use Rattle.std.specs.Prelude.{◌<◌, ℕ, List, [], ◌++◌, length, Result, Ok}
use Rattle.gpi.specs.Design.{widths}
use Rattle.v_syntax.specs.SourceTrees.{ModuleTree}
use Rattle.v_flat.specs.declared.scope.rule.Broken.{Broken}
use Rattle.v_flat.specs.Scope.Found.{HoldsOk, next}
use Rattle.v_flat.specs.Scope.Scope.{Scope, means}
use Rattle.v_flat.specs.Headers.{Port, all_names, later, parameters_of, ports_of}
use Rattle.v_flat.specs.Declarations.{Declared, declarations, in_order, parameters}
use Rattle.v_flat.specs.Paths.{Path}
use Rattle.v_flat.specs.Design.{Design, Outside, State, children, entries, opened, place_of, port_joints}
use Rattle.v_header.specs.Parameter.Given.{GiveTheSame}
use Rattle.v_elab.specs.Connect.Joints.{AreJoints}
use Rattle.v_layout.specs.declared.build.parts.Parts.{Parts}
use Rattle.v_layout.specs.Build.Parts.{Grows, IsSoFar}
use Rattle.v_layout.specs.Named.{StaySignals}
use Rattle.v_layout.specs.Texts.{HasText}
use Rattle.v_elab.specs.declared.state.State as code_state
use Rattle.v_elab.specs.States.{EndsAs, IsReady, IsState}
use Rattle.v_elab.specs.declared.outside.Outside as code

-- c is what the definition gives an instance from outside; ps are its ports, and x is built so far
pub record IsOutside (ps : List Port) (x : Parts) (o : Outside) (c : code.Outside) : Type 0 where
  pub given : GiveTheSame c.given o.given
  pub joints : AreJoints o.scope ps o.joints c.joints.list.items
  pub around : StaySignals o.scope (widths x.signals)

-- the state before the first item, where names mean what they do in s, and ds is declared, ports first
abbrev pub first_state : ModuleTree → Path → Outside → Design → Scope → List Declared → State
first_state m path out d s ds = record {
  scope = s;
  design = port_joints out.scope out.joints s (ports_of m) (opened path ds d);
  driven = [];
  children = children (length d.signals) ds;
}

-- the same, or the rule that is broken first before it
abbrev pub beginning : ModuleTree → Path → Outside → Design → Result State Broken
beginning m path out d =
    next (parameters (parameters_of m) out.given (later (all_names m)) []) (λ constants.
    next (declarations (place_of m constants d) m) (λ ds.
    Ok (first_state m path out d (means (constants ++ entries (length d.signals) (in_order (ports_of m) ds))) (in_order (ports_of m) ds))))

-- items can be walked in y; it has what was built before, maybe more signals behind it, and an instance more
pub record IsBegun (x : Parts) (y : code_state.State) : Type 0 where
  pub ready : IsReady y
  pub grows : Grows x y.parts
  pub node : length x.nodes.items < length y.parts.nodes.items

-- r is how the instance of m begins whose path has this text, where x is built so far
pub record Begins (m : ModuleTree) (text : List ℕ) (c : code.Outside) (x : Parts) (r : Result code_state.State Broken) : Type 0 where
  pub is : (path : Path) (out : Outside) (d : Design) → HasText path text → IsOutside (ports_of m) x out c → IsSoFar d x → EndsAs IsState (beginning m path out d) r
  pub begun : HoldsOk (IsBegun x) r
