use Rattle.kernel_base.specs.TimeSets.{times_of}
use Rattle.list_kernel.proofs.registered.Registered.take.Goals as goal

pub returns-clause-fires : goal.returns-clause-fires
returns-clause-fires c =
    let f = c.take.ensures.fires (times_of c.args.self.now.times) in record { keys = f.keys; counts = f.counts; signals = f.signals }
