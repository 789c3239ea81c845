use Rattle.std.proofs.Common.{◌∙◌}
use Rattle.py_value.proofs.Cuts.{row_step}
use Rattle.py_value.proofs.limits.+extents.Goals as goal

pub row_extent-loop-trig-preserved : goal.row_extent-loop-trig-preserved
row_extent-loop-trig-preserved t c =
    c.beside-extent.ensures
    ∙ row_step c.deref-trig-items.result.now c.loop-trig.trig-index c.trig-item.result c.loop-trig.extent c.trig_extent.result
    c.loop-trig-test.true c.trig-item.is c.loop-trig.invariant c.trig_extent.ensures
