-- The order of the spans doesn't matter.
use Rattle.v_loop.proofs.WakesLemmas.Sweep.{waits_result}
use Rattle.v_loop.proofs.wakes.sensitivity.wakes.Goals as goal

pub returns : goal.returns
returns c =
    waits_result c.args.spans.now c.deref.result.now c.in_ok-sorted.sorted.items c.args.signals c.changes.result c.in_ok-sorted.ensures.permutation c.deref.ensures.value
    c.changes.ensures
