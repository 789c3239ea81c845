-- What is found in an operator on two operands.
use Rattle.std.proofs.Common.{subst, sym, ap, ◌∙◌, ℕ}
use Rattle.v_flat.specs.declared.scope.found.Found.{Found}
use Rattle.v_syntax.specs.ExpressionTrees.{Binary}
use Rattle.v_flat.specs.declared.operators.BinaryClass.{BinaryClass}
use Rattle.v_flat.specs.Expressions.{binary_class}
use Rattle.v_check.specs.declared.constants.checked.Checked.{Checked}
use Rattle.v_check.specs.Constants.Made.{AreBinary}
use Rattle.v_check.specs.Constants.Checked.{IsChecked, sized_at}
use Rattle.v_check.proofs.ConstantsLemmas.Operators.{binary_checked}
use Rattle.v_check.proofs.constants.found.binary.Goals as goal

pub returns : goal.returns
returns c = λ s l r at h k.
    let f = c.in_ok-of_two.field-0 in
    subst (λ (g : Found Checked). IsChecked s (Binary c.args.operator l r) g) (ap (λ (n : ℕ). sized_at n f) at ∙ sym c.sized.ensures)
    (binary_checked s c.args.operator l r c.args.left c.args.right f h k
    (subst (λ (x : Found (Checked × Checked)). AreBinary (binary_class c.args.operator) x f) c.both-operands.ensures
    (subst (λ (o : BinaryClass). AreBinary o c.both-operands.result f) c.binary_class.ensures c.in_ok-of_two.ensures)))
