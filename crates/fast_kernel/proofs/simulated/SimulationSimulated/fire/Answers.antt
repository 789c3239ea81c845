use Rattle.std.proofs.Common.{[], refl}
use Rattle.event_queue.specs.Queues.{held}
use Rattle.fast_kernel.proofs.Phases.{book_stays}
use Rattle.fast_kernel.proofs.simulated.SimulationSimulated.fire.Goals as goal

pub returns-clause-held : goal.returns-clause-held
returns-clause-held c =
    let f = c.change.ensures.is [] in
    let stays = book_stays c.args.self.now c.args.self.now.region c.change.new.self c.requires.held f.signals in
    stays.loaded

pub returns-clause-fired : goal.returns-clause-fired
returns-clause-fired c = c.change.ensures.fired (held c.args.self.now.queue).times

pub returns-clause-is : goal.returns-clause-is
returns-clause-is c =
    let f = c.change.ensures.is (held c.args.self.now.queue).times in
    record { procs = refl; nets = refl; state = refl; keys = f.keys; counts = f.counts }
