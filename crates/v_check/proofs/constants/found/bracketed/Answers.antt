-- What is found in brackets.
use Rattle.std.proofs.Common.{subst, sym}
use Rattle.v_flat.specs.declared.scope.found.Found.{Found}
use Rattle.v_syntax.specs.ExpressionTrees.{Bracketed}
use Rattle.v_check.specs.declared.constants.checked.Checked.{Checked}
use Rattle.v_check.specs.Constants.Checked.{IsChecked}
use Rattle.v_check.proofs.ConstantsLemmas.Operators.{bracketed_checked}
use Rattle.v_check.proofs.constants.found.bracketed.Goals as goal

pub returns : goal.returns
returns c = λ s e h. subst (λ (f : Found Checked). IsChecked s (Bracketed c.args.place e) f) (sym c.sized.ensures) (bracketed_checked s c.args.place e c.args.inner h)
