-- The next item, and all of them.
use Rattle.gpi.specs.Activation.{acts_of}
use Rattle.v_process.proofs.ActLemmas.CaseStatements.{numbering_none, numbering_more}
use Rattle.v_process.proofs.act.cases.numbered.Goals as goal

pub loop-item-init : goal.loop-item-init
loop-item-init c =
    numbering_none c.args.width c.args.items.items c.new-labels.result (acts_of c.new-statements.result) c.new-labels.ensures c.new-statements.ensures

pub loop-item-preserved : goal.loop-item-preserved
loop-item-preserved c =
    numbering_more c.args.width c.args.items.items c.loop-item.items.items c.pop.new.self.items c.in-Some.item c.loop-item.labels
    c.add_item.new.labels (acts_of c.loop-item.statements) (acts_of c.add_item.new.statements) c.in-Some.ensures.items c.in_ok-add_item.ensures
    c.loop-item.invariant
