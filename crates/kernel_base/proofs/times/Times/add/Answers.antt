use Rattle.kernel_base.proofs.TimeSets.{with_time, absent}
use Rattle.kernel_base.proofs.times.Times.add.Goals as goal

pub returns-in_err-insert-clause-new : goal.returns-in_err-insert-clause-new
returns-in_err-insert-clause-new c = absent c.from_residual.result c.args.time c.args.self.now.set c.in_err-insert.ensures.absent

pub returns-clause-is : goal.returns-clause-is
returns-clause-is c = with_time _ _ _ c.in_ok-insert.ensures.updates
