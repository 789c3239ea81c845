use Rattle.event_queue.specs.Queues.{held}
use Rattle.fast_kernel.proofs.Taken.{due_taken, due_parts, taken_sig, taken_inside}
use Rattle.fast_kernel.proofs.simulated.SimulationSimulated.next_due.Goals as goal

pub returns-clause-is : goal.returns-clause-is
returns-clause-is c = due_taken c.args.self.now c.take_due.new.queue c.take_due.result c.take_due.ensures.is

pub returns-clause-sig : goal.returns-clause-sig
returns-clause-sig c =
    let s = c.args.self.now in
    let q = c.take_due.new.queue in
    taken_sig _ (held s.queue).due (held q).due s.shown.items c.take_due.result c.requires.queued.due
    (due_parts (held s.queue) (held q) c.take_due.result _ c.take_due.ensures.is)

pub returns-clause-inside : goal.returns-clause-inside
returns-clause-inside c =
    let s = c.args.self.now in
    let q = c.take_due.new.queue in
    taken_inside _ (held s.queue).due (held q).due s.shown.items c.take_due.result c.requires.queued.due
    (due_parts (held s.queue) (held q) c.take_due.result _ c.take_due.ensures.is)
