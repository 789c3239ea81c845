-- What is found in an operator on one operand.
use Rattle.std.proofs.Common.{subst, sym}
use Rattle.v_flat.specs.declared.scope.found.Found.{Found}
use Rattle.v_syntax.specs.ExpressionTrees.{Unary}
use Rattle.v_flat.specs.declared.operators.UnaryClass.{UnaryClass}
use Rattle.v_check.specs.declared.constants.checked.Checked.{Checked}
use Rattle.v_check.specs.Constants.Made.{AreUnary}
use Rattle.v_check.specs.Constants.Checked.{IsChecked}
use Rattle.v_check.proofs.ConstantsLemmas.Operators.{unary_checked}
use Rattle.v_check.proofs.constants.found.unary.Goals as goal

pub returns : goal.returns
returns c = λ s e h.
    let x = c.args.operand in
    let f = c.in_ok-of_one.field-0 in
    subst (λ (g : Found Checked). IsChecked s (Unary c.args.place c.args.operator e) g) (sym c.sized.ensures)
    (unary_checked s c.args.place c.args.operator e x f h
    (subst (λ (o : UnaryClass). AreUnary o x f) c.unary_class.ensures c.in_ok-of_one.ensures))
