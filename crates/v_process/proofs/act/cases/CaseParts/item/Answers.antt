-- An item before others.
use Rattle.std.proofs.Common.{IfOk, subst, ap, ◌∙◌}
use Rattle.gpi.specs.declared.acts.Act.{Act}
use Rattle.v_flat.specs.declared.scope.found.Found.{Found}
use Rattle.v_flat.specs.Scope.Found.{both}
use Rattle.v_process.specs.declared.act.cases.CaseLabels.{CaseLabels}
use Rattle.v_process.specs.declared.act.cases.CaseParts.{CaseParts}
use Rattle.v_process.specs.Act.MadeCases.{AreMoreItems}
use Rattle.v_process.proofs.ActLemmas.CaseItems.{items_result}
use Rattle.v_process.proofs.act.cases.CaseParts.item.Goals as goal

pub returns : goal.returns
returns c =
    items_result c.args.labels c.args.statement c.args.rest c.more_items.result
    (subst (λ (x : Found ((CaseLabels × Act) × CaseParts)). IfOk c.more_items.result (AreMoreItems x))
    (c.both-2.ensures ∙ ap (λ (y : Found (CaseLabels × Act)). both y c.args.rest) c.both.ensures) c.more_items.ensures)
