-- A means of proof: what is made of statements and targets that were found.
use Rattle.std.specs.Prelude.{◌≡◌, ℕ, List, Option, None, Some}
use Rattle.gpi.specs.declared.acts.Act.{Act, Empty}
use Rattle.gpi.specs.declared.design.Kind.{Kind}
use Rattle.gpi.specs.declared.design.Kind.TheVariants.{Assign, Always}
use Rattle.gpi.specs.declared.design.Wake.{Wake}
use Rattle.gpi.specs.declared.design.Process.{Process}
use Rattle.gpi.specs.declared.targets.Object.TheVariants.{Signal}
use Rattle.gpi.specs.declared.targets.Target.TheVariants as target
use Rattle.v_syntax.specs.declared.statement.AssignmentKind.TheVariants.{Blocking}
use Rattle.v_syntax.specs.ExpressionTrees.{Tree, TargetTree}
use Rattle.v_syntax.specs.StatementTrees.{Assignment}
use Rattle.v_flat.specs.declared.scope.found.Found.{Found}
use Rattle.v_flat.specs.declared.scope.found.Found.TheVariants.{Sound}
use Rattle.v_flat.specs.Scope.Found.{each, both}
use Rattle.v_flat.specs.declared.scope.meaning.Bounds.{Bounds}
use Rattle.v_flat.specs.declared.scope.meaning.DataObject.{DataObject}
use Rattle.v_flat.specs.declared.scope.meaning.Meaning.{Meaning}
use Rattle.v_flat.specs.declared.scope.meaning.Meaning.TheVariants.{Constant, Object, Later}
use Rattle.v_flat.specs.Scope.Scope.{Scope, width_of}
use Rattle.v_flat.specs.Checks.{checked}
use Rattle.v_flat.specs.Statements.{done}
use Rattle.v_check.specs.declared.constants.checked.Checked.{Checked}
use Rattle.v_check.specs.Constants.Checked.{IsChecked}
use Rattle.v_process.specs.declared.act.moment.Moment.TheVariants.{AtOnce}
use Rattle.v_process.specs.declared.target.checked.CheckedTarget.{CheckedTarget}
use Rattle.v_process.specs.Assign.Targets.{IsTarget}
use Rattle.v_process.specs.Act.Statements.{ChecksAssignment}
use Rattle.v_process.specs.Processes.{IsFoundProcess, untimed}

abbrev pub process : Kind → List Wake → Act → Process
process k ws a = record { kind = k; wakes = ws; body = a }

abbrev pub waiting : List Wake × Act → Process
waiting x = process Always x.0 x.1

-- all digits of what is no memory
abbrev pub whole_object : DataObject → CheckedTarget
whole_object o = record { width = width_of o.bounds; target = target.Whole (Signal (record { 0 = o.first }) (width_of o.bounds)) }

-- what a name of this meaning gets whole
abbrev pub whole_in : DataObject → Option Bounds → Option CheckedTarget
whole_in o None = Some (whole_object o)
whole_in o (Some w) = None

abbrev pub whole_target : Option Meaning → Option CheckedTarget
whole_target (Some (Object o)) = whole_in o o.words
whole_target (Some (Constant ds b)) = None
whole_target (Some Later) = None
whole_target None = None

-- a process that assigns to whatever target was found, and a is what the definition finds in it
abbrev pub IsAssigning : Found CheckedTarget → Found Checked → List Wake → Found Process → Type 0
IsAssigning x y ws f =
    (s : Scope) (t : TargetTree) (e : Tree) (a : Found ℕ) → IsTarget s t a x → IsChecked s e y
    → IsFoundProcess untimed Assign ws s (Assignment Blocking t e) (done (both a (checked s e))) f

-- the value is assigned to the target; and where there is none, nothing is done with what was found in the value
abbrev pub OpensWith : Option CheckedTarget → Found Checked → Found Act → Type 0
OpensWith (Some t) y f = ChecksAssignment AtOnce (Sound t) y f
OpensWith None y f = f ≡ each (λ (v : Checked). Empty) y
