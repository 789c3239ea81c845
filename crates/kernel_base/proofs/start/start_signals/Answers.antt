use Rattle.kernel_base.proofs.Opening.{start_more}
use Rattle.kernel_base.proofs.start.start_signals.Goals as goal

pub loop-at-preserved : goal.loop-at-preserved
loop-at-preserved c =
    start_more c.loop-at.map.items c.push.new.self.items c.args.signals.now c.loop-at.at c.get-signal.result.now c.all.result c.get-signal.ensures c.all.ensures
    c.in_ok-push.ensures.items c.loop-at.invariant
