-- An assignment whose target and value are checked.
use Rattle.std.proofs.Common.{sym, subst}
use Rattle.v_flat.specs.declared.scope.found.Found.{Found}
use Rattle.v_flat.specs.Scope.Scope.{means}
use Rattle.v_syntax.specs.ExpressionTrees.{view, view_target}
use Rattle.v_check.specs.declared.constants.checked.Checked.{Checked}
use Rattle.v_check.specs.Constants.Checked.{IsChecked}
use Rattle.v_process.specs.declared.target.checked.CheckedTarget.{CheckedTarget}
use Rattle.v_process.specs.Assign.Targets.{IsProcedural}
use Rattle.v_process.proofs.ActLemmas.Assigning.{delay_found}
use Rattle.v_process.proofs.ActLemmas.Done.{was_made}
use Rattle.v_process.proofs.act.assignments.assignment.Goals as goal

pub returns : goal.returns
returns c =
    let s = means c.args.scope.now in
    let t = view_target c.args.target.now in
    let e = view c.args.value.now in
    let made = c.in_ok-value.ensures.made in
    delay_found c.args.timing s c.moment_of.result c.args.kind.now t e c.in_ok-value.target c.in_ok-value.value c.in_ok-found.found c.delayed.result c.moment_of.ensures
    (subst (λ (x : Found CheckedTarget). IsProcedural s t x) (sym made.1) c.in_ok-target.ensures)
    (was_made c.check.result c.in_ok-value.value (λ (x : Found Checked). IsChecked s e x) made.0 c.check.ensures) c.in_ok-found.ensures c.delayed.ensures
