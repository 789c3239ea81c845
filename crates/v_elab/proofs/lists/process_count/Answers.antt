-- One element more.
use Rattle.v_elab.proofs.Counts.{counted_more}
use Rattle.v_elab.proofs.lists.process_count.Goals as goal

pub loop-element-preserved : goal.loop-element-preserved
loop-element-preserved g c =
    counted_more g.T.Step.gives c.args.elements.now c.loop-element.element-index c.element-item.result c.loop-element.count c.with_element-count.result
    c.loop-element-test.true c.element-item.is c.with_element-count.ensures c.loop-element.invariant
