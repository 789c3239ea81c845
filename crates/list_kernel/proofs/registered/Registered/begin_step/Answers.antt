use Rattle.kernel_base.specs.TimeSets.{times_of}
use Rattle.list_kernel.proofs.registered.Registered.begin_step.Goals as goal

pub returns-clause-fired : goal.returns-clause-fired
returns-clause-fired c = c.begin_step.ensures.fired (times_of c.args.self.now.times) c.take-there.ensures.there

pub returns-clause-is : goal.returns-clause-is
returns-clause-is c =
    let f = c.begin_step.ensures.is (times_of c.args.self.now.times) (times_of c.take-there.new.self) c.take-there.ensures.there c.take-there.ensures.is in
    record { keys = f.keys; counts = f.counts; signals = f.signals }
