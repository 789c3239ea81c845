use Rattle.std.proofs.Common.{ap}
use Rattle.gpi.specs.Terms.{widths_of}
use Rattle.event_queue.specs.Queues.{Held, held}
use Rattle.fast_kernel.proofs.Loaded.{same_queued, time_stays}
use Rattle.fast_kernel.proofs.Fired.{old_time, removes}
use Rattle.fast_kernel.proofs.simulation.Simulation.remove.Goals as goal

pub drop_time-requires : goal.drop_time-requires
drop_time-requires c = old_time c.args.key (held c.args.self.now.queue).times c.args.self.now.book c.requires.there

pub returns-clause-stays : goal.returns-clause-stays
returns-clause-stays c =
    let s = c.args.self.now in
    let q = c.drop_time.new.queue in
    let o = c.drop_time.ensures.others in
    let queued = same_queued (held s.queue) (held q) (widths_of s.shown.items) c.requires.loaded.queued (ap (λ (x : Held). x.due) o) (ap (λ (x : Held). x.later) o) (ap (λ (x : Held). x.delayed) o) in
    time_stays s q s.time s.region c.remove.new.self c.requires.loaded c.drop_time.ensures.processes queued c.remove.ensures.signals

pub returns-clause-is : goal.returns-clause-is
returns-clause-is c =
    removes c.args.self.now c.args.key c.drop_time.new.queue c.remove.new.self c.drop_time.ensures.others c.drop_time.ensures.times c.remove.ensures.is c.remove.ensures.counts
