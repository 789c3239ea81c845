use Rattle.std.proofs.Common.{arith, length, ◌<◌, ◌-◌}
use Rattle.fast_kernel.proofs.Chains.{inside_at}
use Rattle.fast_kernel.proofs.waiters.Chains.follow_all.Goals as goal

pub follow-requires-clause-inside : goal.follow-requires-clause-inside
follow-requires-clause-inside c =
    let i = c.loop-at.invariant.inside in
    let t = c.loop-at-test.true in
    let h : c.loop-at.at - 1 < length c.args.reports.now = omega arith in
    inside_at c.args.reports.now _ (c.loop-at.at - 1) c.index-reports-at.result c.requires.inside h c.index-reports-at.is
