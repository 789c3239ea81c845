use Rattle.std.proofs.Common.{ap}
use Rattle.gpi.specs.Terms.{widths_of}
use Rattle.event_queue.specs.Queues.{Held, held}
use Rattle.fast_kernel.proofs.Loaded.{same_queued, time_stays}
use Rattle.fast_kernel.proofs.Fired.{new_time, registers}
use Rattle.fast_kernel.proofs.simulation.Simulation.register.Goals as goal

pub add_time-requires : goal.add_time-requires
add_time-requires c = new_time c.args.key (held c.args.self.now.queue).times c.args.self.now.book c.requires.new

pub returns-clause-stays : goal.returns-clause-stays
returns-clause-stays c =
    let s = c.args.self.now in
    let q = c.add_time.new.queue in
    let o = c.add_time.ensures.others in
    let queued = same_queued (held s.queue) (held q) (widths_of s.shown.items) c.requires.loaded.queued (ap (λ (x : Held). x.due) o) (ap (λ (x : Held). x.later) o) (ap (λ (x : Held). x.delayed) o) in
    time_stays s q s.time s.region c.add.new.self c.requires.loaded c.add_time.ensures.processes queued c.add.ensures.signals

pub returns-clause-is : goal.returns-clause-is
returns-clause-is c =
    registers c.args.self.now c.args.key c.add_time.new.queue c.add.new.self c.add_time.ensures.others c.in_ok-add_time.ensures.times c.add.ensures.is c.add.ensures.counts
