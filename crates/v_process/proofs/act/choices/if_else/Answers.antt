-- A conditional statement with both branches.
use Rattle.std.proofs.Common.{IfOk, subst, ap, ◌∙◌}
use Rattle.gpi.specs.declared.acts.Act.{Act}
use Rattle.gpi.specs.declared.terms.Term.{Term}
use Rattle.v_flat.specs.declared.scope.found.Found.{Found}
use Rattle.v_flat.specs.Scope.Found.{both}
use Rattle.v_check.specs.Names.Selects.{ChecksIndex}
use Rattle.v_process.specs.Act.Made.{AreChoices}
use Rattle.v_process.proofs.ActLemmas.Chosen.{choice_result}
use Rattle.v_process.proofs.ActLemmas.Done.{was_made}
use Rattle.v_process.proofs.act.choices.if_else.Goals as goal

pub returns : goal.returns
returns c =
    let made = c.in_ok-test.ensures.made in
    choice_result c.args.condition c.in_ok-test.test c.args.yes c.args.no c.of_branches.result
    (was_made c.by_itself.result c.in_ok-test.test (λ (t : Found Term). ChecksIndex c.args.condition t) made.0 c.by_itself.ensures)
    (subst (λ (x : Found (Term × (Act × Act))). IfOk c.of_branches.result (AreChoices x))
    (c.both-2.ensures ∙ ap (λ (y : Found (Act × Act)). both c.in_ok-test.test y) (made.1 ∙ c.both.ensures)) c.of_branches.ensures)
