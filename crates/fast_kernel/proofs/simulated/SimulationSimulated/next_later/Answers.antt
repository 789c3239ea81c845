use Rattle.event_queue.specs.Queues.{held}
use Rattle.fast_kernel.proofs.Taken.{later_taken, later_parts, taken_sig, taken_inside}
use Rattle.fast_kernel.proofs.simulated.SimulationSimulated.next_later.Goals as goal

pub returns-clause-is : goal.returns-clause-is
returns-clause-is c = later_taken c.args.self.now c.take_later.new.queue c.take_later.result c.take_later.ensures.is

pub returns-clause-sig : goal.returns-clause-sig
returns-clause-sig c =
    let s = c.args.self.now in
    let q = c.take_later.new.queue in
    taken_sig _ (held s.queue).later (held q).due s.shown.items c.take_later.result c.requires.held.queued.later
    (later_parts (held s.queue) (held q) c.take_later.result _ c.take_later.ensures.is)

pub returns-clause-inside : goal.returns-clause-inside
returns-clause-inside c =
    let s = c.args.self.now in
    let q = c.take_later.new.queue in
    taken_inside _ (held s.queue).later (held q).due s.shown.items c.take_later.result c.requires.held.queued.later
    (later_parts (held s.queue) (held q) c.take_later.result _ c.take_later.ensures.is)
