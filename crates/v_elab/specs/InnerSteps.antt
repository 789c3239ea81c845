-- A means of proof: the steps before the subtree of an instance.
use Rattle.std.specs.Prelude.{◌≡◌, ◌<◌, ℕ, List, [], ◌∷◌, ◌++◌, Option, Result, Ok, Err, length}
use Rattle.std.specs.Borrow.{Bor}
use Rattle.name_table.specs.Places.{first_place, noted}
use Rattle.gpi.specs.declared.design.Spot.TheVariants as spot
use Rattle.v_syntax.specs.declared.statement.Identifier.{Identifier}
use Rattle.v_syntax.specs.declared.source.Module.{Module}
use Rattle.v_syntax.specs.SourceTrees.{ConnectionsTree, ModuleTree, view_module}
use Rattle.v_flat.specs.declared.scope.rule.Broken.{Broken}
use Rattle.v_flat.specs.declared.scope.found.Found.{Found}
use Rattle.v_flat.specs.declared.scope.found.Found.TheVariants.{Sound, Noted, Lost}
use Rattle.v_flat.specs.Scope.Found.{HoldsOk, both, ended}
use Rattle.v_flat.specs.Scope.Limits.{most_parts}
use Rattle.v_flat.specs.Scope.Scope.{Scope}
use Rattle.v_flat.specs.Declarations.{Given}
use Rattle.v_flat.specs.Headers.{Port, module_name, open_parameters, parameters_of, ports_of}
use Rattle.v_flat.specs.Targets.{Drive}
use Rattle.v_flat.specs.Design.{Design, Joints, Modules, State, find_module, given_of, instance_checked, joints_of, module_there}
use Rattle.v_header.specs.Parameter.Given.{GiveTheSame}
use Rattle.v_process.specs.declared.drive.digits.DrivenDigits.{DrivenDigits}
use Rattle.v_process.specs.Drive.Digits.{Keeps}
use Rattle.v_elab.specs.declared.connect.joint.Joints as code_joints
use Rattle.v_elab.specs.Connect.Joints.{AreJoints}
use Rattle.v_elab.specs.declared.outside.Outside.{Outside}
use Rattle.v_header.specs.Names.{texts}
use Rattle.v_layout.specs.Texts.{HasText}
use Rattle.v_flat.specs.Paths.{Path, below}
use Rattle.v_layout.specs.declared.build.parts.Parts.{Parts}
use Rattle.v_elab.specs.States.{EndsAs}
use Rattle.v_elab.specs.declared.inner.Inner.{Inner}
use Rattle.v_elab.specs.declared.level.Level.{Level}
use Rattle.v_elab.specs.declared.waiting.Entered.{Entered}
use Rattle.v_elab.specs.declared.waiting.Waiting.{Waiting}
use Rattle.v_elab.specs.declared.walked.Walked.{Walked}
use Rattle.v_elab.specs.Instances.{IsWalked}
use Rattle.v_elab.specs.Enters.{HaveTheSame, connections_in}

-- the same rule is broken first, and P holds of both values where none is
abbrev pub FoundAs : {A B : Type 0} → (A → B → Type 0) → Found A → Found B → Type 0
FoundAs P (Sound a) (Sound b) = P a b
FoundAs P (Sound a) (Noted y b) = ⊥
FoundAs P (Sound a) (Lost y) = ⊥
FoundAs P (Noted x a) (Noted y b) = x ≡ y
FoundAs P (Noted x a) (Sound b) = ⊥
FoundAs P (Noted x a) (Lost y) = ⊥
FoundAs P (Lost x) (Lost y) = x ≡ y
FoundAs P (Lost x) (Sound b) = ⊥
FoundAs P (Lost x) (Noted y b) = ⊥

-- ---- the module

abbrev pub IsModule : ModuleTree → Bor Module → Type 0
IsModule m x = m ≡ view_module x.now

-- r is the module of an instance, where these are the modules above and so many instances are built
pub record IsThere (i : Identifier) (room : ℕ) (ms : Modules) (names : List (List ℕ)) (nodes : ℕ) (r : Result (Bor Module) Broken) : Type 0 where
  pub is : (above : List (List ℕ)) (d : Design) → HaveTheSame above names → length d.nodes ≡ nodes → EndsAs IsModule (ended (module_there i room above d (find_module i.name ms.list))) r
  pub room_is : HoldsOk (λ (m : Bor Module). (0 < room) × (nodes < most_parts)) r
  pub name_is : HoldsOk (λ (m : Bor Module). m.now.name.name ≡ i.name) r

-- ---- what it is given

abbrev pub AreGivenBoth : Scope → List Port → DrivenDigits → List Given × Joints → List Given × code_joints.Joints → Type 0
AreGivenBoth s ps y a b = GiveTheSame b.0 a.0 × (AreJoints s ps a.1.list b.1.list.items × Keeps y a.1.driven)

-- what is found in the parameters and ports of an instance of m, where x is driven before and y behind
abbrev pub AreBothFound : Scope → Inner → ModuleTree → List Port → DrivenDigits → Found (List Given × code_joints.Joints) → DrivenDigits → Type 0
AreBothFound s i m ps x f y =
    (ds : List Drive) → Keeps x ds
    → FoundAs (AreGivenBoth s ps y) (both (given_of s (connections_in i.parameters) (open_parameters (parameters_of m))) (joints_of s (connections_in i.ports) ps ds)) f

-- ---- the item

-- y is what the definition gives the instance from outside, and x with the digits that are driven then
pub record IsCheckedAs (s : State) (m : ModuleTree) (a : List Given × Joints) (y : Outside × Walked) : Type 0 where
  pub given : GiveTheSame y.0.given a.0
  pub joints : AreJoints s.scope (ports_of m) a.1.list y.0.joints.list.items
  pub driven : Keeps y.1.state.driven a.1.driven

-- y is x but for the driven digits
pub record IsRest (x y : Walked) : Type 0 where
  pub scope : y.state.scope ≡ x.state.scope
  pub parts : y.state.parts ≡ x.state.parts
  pub children : y.state.children ≡ x.state.children
  pub instances : y.instances ≡ x.instances

pub record Checks (i : Inner) (m : ModuleTree) (x : Walked) (r : Result (Outside × Walked) Broken) : Type 0 where
  pub is : (s : State) → IsWalked s x → EndsAs (IsCheckedAs s m) (ended (instance_checked i.at (connections_in i.parameters) i.name.now (connections_in i.ports) s m)) r
  pub rest : HoldsOk (λ (y : Outside × Walked). IsRest x y.1) r

-- what an instance is given, beside the instance around it
abbrev pub beside : Walked → Result Outside Broken → Result (Outside × Walked) Broken
beside w (Ok o) = Ok (o, w)
beside w (Err b) = Err b

-- ---- all of it

pub record IsMade (l : Level) (i : Inner) (m : ModuleTree) (o : Outside) (x : Walked) (e : Entered) : Type 0 where
  pub module_is : view_module e.module.now ≡ m
  pub path_is : (path : Path) → HasText path l.path.now → HasText (below path i.name.now.name) e.path.items
  pub above_is : texts e.above.items ≡ texts l.above.now ++ ((module_name m).name ∷ [])
  pub outside : e.outside ≡ o
  pub scope : e.waiting.scope ≡ x.state.scope
  pub driven : e.waiting.driven ≡ x.state.driven
  pub parts : e.parts ≡ x.state.parts
  pub children : e.waiting.children ≡ x.state.children
  pub instances : e.waiting.instances ≡ x.instances
  pub node : e.waiting.node ≡ length x.state.parts.nodes.items

-- ---- behind it

-- v is w, in which the instance inside it has this name
pub record Notes (name : List ℕ) (w v : Waiting) : Type 0 where
  pub scope : v.scope ≡ w.scope
  pub driven : v.driven ≡ w.driven
  pub children : v.children ≡ w.children ++ ((name, spot.Inner w.node) ∷ [])
  pub instances : (n : List ℕ) → first_place v.instances n ≡ noted name 0 (first_place w.instances) n

-- w, where y is built so far
abbrev pub walked_with : Waiting → Parts → Walked
walked_with w y = record { state = record { scope = w.scope; parts = y; driven = w.driven; children = w.children }; instances = w.instances }
