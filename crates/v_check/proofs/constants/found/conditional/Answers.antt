-- What is found in a conditional.
use Rattle.std.proofs.Common.{subst, sym, ap, ◌∙◌, ℕ}
use Rattle.v_flat.specs.declared.scope.found.Found.{Found}
use Rattle.v_flat.specs.Scope.Found.{both}
use Rattle.v_syntax.specs.ExpressionTrees.{Conditional}
use Rattle.v_check.specs.declared.constants.checked.Checked.{Checked}
use Rattle.v_check.specs.Constants.Made.{AreConditional}
use Rattle.v_check.specs.Constants.Checked.{IsChecked, sized_at}
use Rattle.v_check.proofs.ConstantsLemmas.Operators.{conditional_checked}
use Rattle.v_check.proofs.constants.found.conditional.Goals as goal

pub returns : goal.returns
returns c = λ s t l r at h k n.
    let f = c.in_ok-of_three.field-0 in
    subst (λ (g : Found Checked). IsChecked s (Conditional t l r) g) (ap (λ (n : ℕ). sized_at n f) at ∙ sym c.sized.ensures)
    (conditional_checked s t l r c.args.condition c.args.yes c.args.no f h k n
    (subst (λ (x : Found (Checked × (Checked × Checked))). AreConditional x f)
    (c.both-operands.ensures ∙ ap (λ (y : Found (Checked × Checked)). both c.args.condition y) c.both.ensures) c.in_ok-of_three.ensures))
