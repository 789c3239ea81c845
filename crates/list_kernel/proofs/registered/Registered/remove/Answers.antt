use Rattle.kernel_base.specs.TimeSets.{times_of}
use Rattle.list_kernel.proofs.registered.Registered.remove.Goals as goal

pub returns-clause-is : goal.returns-clause-is
returns-clause-is c = c.remove.ensures.is (times_of c.args.self.now.times) (times_of c.drop_time.new.times) c.drop_time.ensures
