-- A means of proof: the steps in which an instance begins.
use Rattle.std.specs.Prelude.{ℕ, List, [], ◌++◌, length, Result, Ok}
use Rattle.gpi.specs.Design.{widths}
use Rattle.v_syntax.specs.SourceTrees.{ModuleTree}
use Rattle.v_flat.specs.declared.scope.rule.Broken.{Broken}
use Rattle.v_flat.specs.Scope.Found.{HoldsOk, next}
use Rattle.v_flat.specs.Scope.Scope.{Scope, means}
use Rattle.v_flat.specs.Headers.{Port, all_names, later, parameters_of, ports_of}
use Rattle.v_flat.specs.Declarations.{Declared, Entries, Given, declarations, in_order, parameters}
use Rattle.v_flat.specs.Paths.{Path}
use Rattle.v_flat.specs.Design.{Design, Joint, Outside, State, children, entries, opened, place_of, port_joints}
use Rattle.v_header.specs.declared.parameter.constants.Constants.{Constants}
use Rattle.v_header.specs.Parameter.Constants.{AreParameters, entries_of}
use Rattle.v_elab.specs.declared.connect.joint.Joint as code_joint
use Rattle.v_elab.specs.Connect.Joints.{AreJoints}
use Rattle.v_layout.specs.declared.build.parts.Parts.{Parts}
use Rattle.v_layout.specs.Build.Parts.{IsSoFar}
use Rattle.v_layout.specs.Named.{StaySignals}
use Rattle.v_layout.specs.Texts.{HasText}
use Rattle.v_elab.specs.declared.state.State as code_state
use Rattle.v_elab.specs.States.{EndsAs, IsState}
use Rattle.v_elab.specs.Begins.{IsBegun, first_state}

-- r are the parameters of an instance of m that is given these values, or the rule that is broken first in them
abbrev pub HaveConstants : ModuleTree → List Given → Result Constants Broken → Type 0
HaveConstants m gs r = AreParameters (later (all_names m)) (parameters (parameters_of m) gs (later (all_names m)) []) r

-- the state before the first item of an instance with these parameters and declarations; js are joined to its ports in the scope outer
abbrev pub opened_state : Path → Entries → List Port → List Declared → Scope → List Joint → Design → State
opened_state path constants ps ds outer js d = record {
  scope = means (constants ++ entries (length d.signals) ds);
  design = port_joints outer js (means (constants ++ entries (length d.signals) ds)) ps (opened path ds d);
  driven = [];
  children = children (length d.signals) ds;
}

pub record OpensWith (text : List ℕ) (c : Constants) (ps : List Port) (ds : List Declared) (cs : List code_joint.Joint) (x : Parts) (y : code_state.State) : Type 0 where
  pub is : (path : Path) (outer : Scope) (js : List Joint) (d : Design) → HasText path text → AreJoints outer ps js cs → StaySignals outer (widths x.signals) → IsSoFar d x
      → IsState (opened_state path (entries_of c.list.items) ps ds outer js d) y
  pub begun : IsBegun x y

-- the declarations and the first state, or the rule that is broken first
abbrev pub declared_state : ModuleTree → Path → Outside → Design → Entries → Result State Broken
declared_state m path out d constants =
    next (declarations (place_of m constants d) m) (λ ds.
    Ok (first_state m path out d (means (constants ++ entries (length d.signals) (in_order (ports_of m) ds))) (in_order (ports_of m) ds)))

pub record Declares (m : ModuleTree) (text : List ℕ) (c : Constants) (cs : List code_joint.Joint) (x : Parts) (r : Result code_state.State Broken) : Type 0 where
  pub is : (path : Path) (out : Outside) (d : Design) → HasText path text → AreJoints out.scope (ports_of m) out.joints cs → StaySignals out.scope (widths x.signals) → IsSoFar d x
      → EndsAs IsState (declared_state m path out d (entries_of c.list.items)) r
  pub begun : HoldsOk (IsBegun x) r
