use Rattle.std.proofs.Common.{◌∙◌}
use Rattle.kernel_base.proofs.TimeSets.{holds_keys, without_time}
use Rattle.kernel_base.proofs.times.Times.take.Goals as goal

pub returns-clause-there : goal.returns-clause-there
returns-clause-there c = c.remove.ensures.test ∙ holds_keys c.args.time c.args.self.now.set.keys

pub returns-clause-is : goal.returns-clause-is
returns-clause-is c = without_time _ _ _ c.remove.ensures.updates
