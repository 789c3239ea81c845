use Rattle.kernel_base.specs.TimeSets.{times_of}
use Rattle.list_kernel.proofs.registered.Registered.change.Goals as goal

pub returns-clause-fired : goal.returns-clause-fired
returns-clause-fired c = c.change.ensures.fired (times_of c.args.self.now.times)

pub returns-clause-is : goal.returns-clause-is
returns-clause-is c =
    let f = c.change.ensures.is (times_of c.args.self.now.times) in record { keys = f.keys; counts = f.counts; signals = f.signals }
