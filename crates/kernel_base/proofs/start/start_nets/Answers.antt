use Rattle.kernel_base.proofs.Opening.{nets_more}
use Rattle.kernel_base.proofs.start.start_nets.Goals as goal

pub loop-at-preserved : goal.loop-at-preserved
loop-at-preserved c =
    nets_more c.loop-at.nets.items c.push.new.self.items c.args.signals.now c.loop-at.at c.get.result.now c.is_net.result c.get.ensures c.is_net.ensures
    c.in_ok-push.ensures.items c.loop-at.invariant
