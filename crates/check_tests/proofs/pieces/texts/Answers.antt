use Rattle.std.proofs.Common.{◌∙◌}
use Rattle.check_tests.proofs.Fronts.{text_more}
use Rattle.check_tests.proofs.pieces.texts.Goals as goal

pub loop-at-preserved : goal.loop-at-preserved
loop-at-preserved g c =
    text_more g.T.Shown.text c.args.items.now c.loop-at.at c.get.result.now c.loop-at.shown.items c.deref.result.now _
    c.get.ensures c.loop-at.invariant (c.deref.ensures.value ∙ c.in_ok-shown.ensures) c.in_ok-extend_from_slice.ensures.items
