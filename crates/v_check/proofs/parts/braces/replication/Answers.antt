-- What is found in a replication.
use Rattle.std.proofs.Common.{ℕ, subst, sym, ap, ◌∙◌}
use Rattle.v_flat.specs.declared.scope.found.Found.{Found}
use Rattle.v_flat.specs.Scope.Found.{both}
use Rattle.v_syntax.specs.ExpressionTrees.{Replication}
use Rattle.v_check.specs.declared.constants.checked.Checked.{Checked}
use Rattle.v_check.specs.Constants.Checked.{IsChecked}
use Rattle.v_check.specs.declared.parts.parts.Parts.{Parts}
use Rattle.v_check.specs.Parts.Made.{AreCopies}
use Rattle.v_check.proofs.PartsLemmas.Whole.{replication_checked}
use Rattle.v_check.proofs.parts.braces.replication.Goals as goal

pub returns : goal.returns
returns c = λ s k es g h.
    let f = c.in_ok-of_copies.field-0 in
    subst (λ (x : Found Checked). IsChecked s (Replication c.args.place k es) x) (sym c.sized.ensures)
    (replication_checked s c.args.place k es c.args.count c.args.parts f g h
    (subst (λ (x : Found (ℕ × Parts)). AreCopies x f) (c.both-both.ensures ∙ ap (λ (y : Found Parts). both c.args.count y) c.filled.ensures) c.in_ok-of_copies.ensures))
