-- What is found in a concatenation.
use Rattle.std.proofs.Common.{subst, sym}
use Rattle.v_flat.specs.declared.scope.found.Found.{Found}
use Rattle.v_syntax.specs.ExpressionTrees.{Concatenation}
use Rattle.v_check.specs.declared.constants.checked.Checked.{Checked}
use Rattle.v_check.specs.Constants.Checked.{IsChecked}
use Rattle.v_check.specs.declared.parts.parts.Parts.{Parts}
use Rattle.v_check.specs.Parts.Made.{AreOnce}
use Rattle.v_check.proofs.PartsLemmas.Whole.{concatenation_checked}
use Rattle.v_check.proofs.parts.braces.concatenation.Goals as goal

pub returns : goal.returns
returns c = λ s es h.
    let f = c.in_ok-of_parts.field-0 in
    subst (λ (g : Found Checked). IsChecked s (Concatenation c.args.place es) g) (sym c.sized.ensures)
    (concatenation_checked s c.args.place es c.args.parts f h
    (subst (λ (x : Found Parts). AreOnce x f) c.filled.ensures c.in_ok-of_parts.ensures))
