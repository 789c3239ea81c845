use Rattle.fast_kernel.proofs.Opened.{heads_more}
use Rattle.fast_kernel.proofs.opening.copy_headers.Goals as goal

pub loop-at-preserved : goal.loop-at-preserved
loop-at-preserved c =
    heads_more c.loop-at.headers.items c.push.new.self.items c.args.processes.now c.loop-at.at c.get-process.result.now _ c.get-process.ensures c.in_ok-wakes.ensures
    c.in_ok-push.ensures.items c.loop-at.invariant
