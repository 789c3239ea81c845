-- A label before others.
use Rattle.std.proofs.Common.{IfOk, subst}
use Rattle.v_flat.specs.declared.scope.found.Found.{Found}
use Rattle.v_check.specs.declared.constants.checked.Checked.{Checked}
use Rattle.v_process.specs.declared.act.cases.CaseLabels.{CaseLabels}
use Rattle.v_process.specs.Act.MadeCases.{AreMoreLabels}
use Rattle.v_process.proofs.ActLemmas.CaseItems.{labels_result}
use Rattle.v_process.proofs.act.cases.CaseLabels.before.Goals as goal

pub returns : goal.returns
returns c =
    labels_result c.args.first c.args.rest c.more_labels.result
    (subst (λ (x : Found (Checked × CaseLabels)). IfOk c.more_labels.result (AreMoreLabels x)) c.both.ensures c.more_labels.ensures)
