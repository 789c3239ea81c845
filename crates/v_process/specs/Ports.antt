-- A means of proof: what it means that a connected port has its process (IEEE 1364-2005, clause 12.3.9.2), for the proofs of elaboration:
-- its assignment, as the definition makes it.
use Rattle.std.specs.Prelude.{List, [], ◌∷◌, None}
use Rattle.gpi.specs.declared.design.Kind.TheVariants.{Assign}
use Rattle.gpi.specs.declared.design.Wake.{Wake}
use Rattle.gpi.specs.declared.design.Process.{Process}
use Rattle.v_syntax.specs.ExpressionTrees.{Tree, TargetTree}
use Rattle.v_flat.specs.declared.scope.meaning.DataObject.{DataObject}
use Rattle.v_flat.specs.Scope.Scope.{Scope}
use Rattle.v_flat.specs.Design.{any_change, input_run, output_run}
use Rattle.v_check.specs.declared.constants.checked.Checked.{Checked}
use Rattle.v_check.specs.Constants.Checked.{IsObjectOf, AreNamesOf, StandsFor}
use Rattle.v_process.specs.declared.target.checked.CheckedTarget.{CheckedTarget}
use Rattle.v_process.specs.Assign.Targets.{TargetNamesOf, GetsAs}
use Rattle.v_process.specs.Processes.{IsProcess}

-- the input o gets the value of whatever expression v stands for, in whatever scope
abbrev pub AssignsInput : DataObject → Checked → List Wake → Process → Type 0
AssignsInput o v ws p =
    (s : Scope) (e : Tree) → StandsFor s e v
    → IsProcess (record { kind = Assign; wakes = ws; run = input_run s o e }) (λ us. IsObjectOf o None us × AreNamesOf s e us) p

-- whatever target t stands for gets the value of the output o, in whatever scope, at each change of it
abbrev pub AssignsOutput : DataObject → CheckedTarget → Process → Type 0
AssignsOutput o t p =
    (s : Scope) (tree : TargetTree) → GetsAs s tree t
    → IsProcess (record { kind = Assign; wakes = any_change o.first ∷ []; run = output_run s o tree }) (λ us. IsObjectOf o None us × TargetNamesOf s tree us) p
