-- A means of proof: what it means that the connections of an instance were checked (IEEE 1364-2005, clauses 12.3.5 to 12.3.9), for the
-- proofs of elaboration.
use Rattle.std.specs.Prelude.{◌≡◌, ℕ, List, [], ◌∷◌, Option, None, Some, option_map, slice_get}
use Rattle.std.specs.Borrow.{Bor}
use Rattle.v_syntax.specs.declared.item.Direction.{Direction}
use Rattle.v_syntax.specs.declared.item.Direction.TheVariants as direction
use Rattle.v_syntax.specs.declared.item.Connections.{Connections}
use Rattle.v_syntax.specs.ExpressionTrees.{Tree, TargetTree}
use Rattle.v_syntax.specs.SourceTrees.{ConnectionTree, view_connections}
use Rattle.v_flat.specs.declared.scope.found.Found.{Found}
use Rattle.v_flat.specs.declared.scope.found.Found.TheVariants.{Sound, Noted, Lost}
use Rattle.v_flat.specs.Scope.Scope.{Scope}
use Rattle.v_flat.specs.Headers.{Port}
use Rattle.v_flat.specs.Statements.{reads}
use Rattle.v_flat.specs.Targets.{Drive, as_target}
use Rattle.v_flat.specs.Design.{Joint, Joints, ordered_joints, named_joints, joints_of}
use Rattle.v_process.specs.declared.drive.digits.DrivenDigits.{DrivenDigits}
use Rattle.v_process.specs.Drive.Digits.{Keeps}
use Rattle.v_check.specs.declared.constants.checked.Checked.{Checked}
use Rattle.v_check.specs.Constants.Checked.{StandsFor}
use Rattle.v_process.specs.declared.target.checked.CheckedTarget.{CheckedTarget}
use Rattle.v_process.specs.Assign.Targets.{GetsAs}
use Rattle.v_loop.specs.declared.reads.span.Span as code_span
use Rattle.v_loop.specs.Reads.Reads.{spans_of}
use Rattle.v_elab.specs.declared.connect.joint.Joined.{Joined}
use Rattle.v_elab.specs.declared.connect.joint.Joined.TheVariants as joined_kind
use Rattle.v_elab.specs.declared.connect.joint.Joint as code
use Rattle.v_elab.specs.declared.connect.joint.Joints as code_joints

-- ---- one port

-- c stands for the expression in each context, and it reads these signals
pub record IsValue (s : Scope) (e : Tree) (c : Checked) (xs : List code_span.Span) : Type 0 where
  pub stands : StandsFor s e c
  pub reads_are : spans_of xs ≡ reads s e

-- the expression spells a target, whose updates c gets
abbrev pub IsTargetOf : Scope → Option TargetTree → CheckedTarget → Type 0
IsTargetOf s None c = ⊥
IsTargetOf s (Some t) c = GetsAs s t c

-- an output is joined to a target, and any other port to an expression
abbrev pub IsJoined : Scope → Option Direction → Tree → Joined → Type 0
IsJoined s (Some direction.Output) e (joined_kind.Target c) = IsTargetOf s (as_target e) c
IsJoined s (Some direction.Output) e (joined_kind.Value c xs) = ⊥
IsJoined s (Some direction.Input) e (joined_kind.Target c) = ⊥
IsJoined s (Some direction.Input) e (joined_kind.Value c xs) = IsValue s e c xs.items
IsJoined s None e (joined_kind.Target c) = ⊥
IsJoined s None e (joined_kind.Value c xs) = IsValue s e c xs.items

-- c has the name of the port and what it is joined to; the port is one of the list
pub record IsJoint (s : Scope) (ps : List Port) (j : Joint) (c : code.Joint) : Type 0 where
  pub place : ℕ
  pub port : Port
  pub there : slice_get ps place ≡ Some port
  pub name : port.name ≡ j.port
  pub key : c.port.items ≡ j.port
  pub is_joined : IsJoined s port.direction j.value c.joined

-- ---- all of them

abbrev pub AreJoints : Scope → List Port → List Joint → List code.Joint → Type 0
AreJoints s ps [] [] = Unit {0}
AreJoints s ps [] (c ∷ cs) = ⊥
AreJoints s ps (j ∷ js) [] = ⊥
AreJoints s ps (j ∷ js) (c ∷ cs) = IsJoint s ps j c × AreJoints s ps js cs

-- the same rule is broken first, or none, and then the joints are those of the definition; and y has the digits that are driven after
-- them, wherever the definition has these
abbrev pub AreFound : Scope → List Port → Found Joints → Found code_joints.Joints → DrivenDigits → Type 0
AreFound s ps (Sound x) (Sound js) y = AreJoints s ps x.list js.list.items × Keeps y x.driven
AreFound s ps (Sound x) (Noted c js) y = ⊥
AreFound s ps (Sound x) (Lost c) y = ⊥
AreFound s ps (Noted b x) (Noted c js) y = (b ≡ c) × Keeps y x.driven
AreFound s ps (Noted b x) (Sound js) y = ⊥
AreFound s ps (Noted b x) (Lost c) y = ⊥
AreFound s ps (Lost b) (Lost c) y = b ≡ c
AreFound s ps (Lost b) (Sound js) y = ⊥
AreFound s ps (Lost b) (Noted c js) y = ⊥

-- connections in the order of the ports, whatever was driven before
abbrev pub AreInOrder : Scope → List Tree → List Port → DrivenDigits → Found code_joints.Joints → DrivenDigits → Type 0
AreInOrder s es ps x f y = (ds : List Drive) → Keeps x ds → AreFound s ps (ordered_joints s es ps ds) f y

-- connections with the names of ports
abbrev pub AreByName : Scope → List ConnectionTree → List Port → DrivenDigits → Found code_joints.Joints → DrivenDigits → Type 0
AreByName s cs ps x f y = (ds : List Drive) → Keeps x ds → AreFound s ps (named_joints s ps [] cs ds) f y

-- all of an instance
abbrev pub AreConnected : Scope → Option (Bor Connections) → List Port → DrivenDigits → Found code_joints.Joints → DrivenDigits → Type 0
AreConnected s cs ps x f y =
    (ds : List Drive) → Keeps x ds → AreFound s ps (joints_of s (option_map (λ (c : Bor Connections). view_connections c.now) cs) ps ds) f y
