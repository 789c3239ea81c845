use Rattle.list_kernel.proofs.Wakes.{waits_yes, waits_on}
use Rattle.list_kernel.proofs.wake.waits.Goals as goal

pub returns-then-meets_any : goal.returns-then-meets_any
returns-then-meets_any c =
    waits_yes c.args.wakes.now c.loop-at.at c.get.result.now c.args.reports.now _ _ c.get.ensures c.loop-at.invariant c.meets_any.ensures c.if-meets_any.true

pub loop-at-preserved : goal.loop-at-preserved
loop-at-preserved c =
    waits_on c.args.wakes.now c.loop-at.at c.get.result.now c.args.reports.now _ _ c.get.ensures c.loop-at.invariant c.meets_any.ensures c.if-meets_any.false
