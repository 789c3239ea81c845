-- A case statement from the value and the items.
use Rattle.std.specs.Prelude.{unwrap_or}
use Rattle.std.proofs.Common.{List, Option, ap, ◌∙◌}
use Rattle.gpi.specs.declared.acts.Act.{Act, Empty}
use Rattle.gpi.specs.declared.acts.Acts.{Acts}
use Rattle.gpi.specs.declared.acts.Label.{Label}
use Rattle.gpi.specs.declared.terms.Term.{Term}
use Rattle.v_check.specs.Contextual.Contexts.{IsLowered}
use Rattle.v_process.specs.Act.MadeCases.{AreNumbered}
use Rattle.v_process.proofs.ActLemmas.CaseStatements.{statement_result}
use Rattle.v_process.proofs.ActLemmas.Done.{was_made}
use Rattle.v_process.proofs.act.cases.made.Goals as goal

pub returns : goal.returns
returns c =
    let x = c.in_ok-value in
    let w = c.max-width.result in
    let parts = was_made c.lowered-lowered.result (x.value, (x.labels, x.statements))
    (λ (made : Term × (List Label × Acts)). IsLowered c.args.value.form w made.0 × AreNumbered w c.args.parts.items.items made.1.0 made.1.1)
    x.ensures.made.0 c.lowered-lowered.ensures in
    statement_result c.args.kind c.args.value c.args.parts c.agreement.result w x.value x.labels x.statements c.unwrap_or-other.result c.case.result
    c.agreement.ensures c.max-width.ensures parts.0 parts.1
    (c.unwrap_or-other.ensures ∙ ap (λ (o : Option Act). unwrap_or o Empty) x.ensures.made.1) c.case.ensures
