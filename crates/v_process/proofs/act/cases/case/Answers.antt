-- A case statement from what was found in its parts.
use Rattle.std.proofs.Common.{IfOk, subst}
use Rattle.v_flat.specs.declared.scope.found.Found.{Found}
use Rattle.v_check.specs.declared.constants.checked.Checked.{Checked}
use Rattle.v_process.specs.declared.act.cases.CaseParts.{CaseParts}
use Rattle.v_process.specs.Act.MadeCases.{AreCaseStatements}
use Rattle.v_process.proofs.ActLemmas.CaseStatements.{case_result}
use Rattle.v_process.proofs.act.cases.case.Goals as goal

pub returns : goal.returns
returns c =
    case_result c.args.kind c.args.value c.args.parts c.of_both.result
    (subst (λ (x : Found (Checked × CaseParts)). IfOk c.of_both.result (AreCaseStatements c.args.kind x)) c.both.ensures c.of_both.ensures)
