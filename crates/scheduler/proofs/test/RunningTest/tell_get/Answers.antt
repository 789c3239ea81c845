-- What the events of a queue tell.
use Rattle.std.proofs.Common.{ap, ◌∙◌, List, ℕ}
use Rattle.std.specs.Prelude.{◌==◌}
use Rattle.gpi.specs.Content.{Content}
use Rattle.task_queue.specs.Queues.{TaskQueue, is_empty, queue_at}
use Rattle.scheduler.specs.Parts.{means, rig_of}
use Rattle.scheduler.proofs.Nexts.{room_same}
use Rattle.scheduler.proofs.QueueLaws.{get_tells, stays_aside, none_held}
use Rattle.scheduler.proofs.test.RunningTest.tell_get.Goals as goal

pub set_if-requires-clause-event : goal.set_if-requires-clause-event
set_if-requires-clause-event g c = rw c.space_event-space.ensures (c.requires.queues.made c.args.queue.0 _ c.requires.queue).1

pub clear_if-requires : goal.clear_if-requires
clear_if-requires g c = rw (c.set_if.ensures.events, c.items_event-items.ensures) (c.requires.queues.made c.args.queue.0 _ c.requires.queue).0

pub returns-clause-tells : goal.returns-clause-tells
returns-clause-tells g c =
    let m = means g.M.FlowMaker g.M.Flow.Flow g.W.Awaits in
    let k : Content = g.K.Gpi.content c.args.kernel.now in
    let k' : Content = g.K.Gpi.content c.set_if.new.kernel in
    get_tells c.args.was_full _ c.args.queue c.items_event-items.result c.space_event-space.result (rig_of m c.args.self.now k) (rig_of m c.set_if.new.self k')
    (rig_of m c.clear_if.new.self k') c.items_event-items.ensures c.space_event-space.ensures
    (ap (λ (n : ℕ). n == 0) c.len-held.ensures ∙ none_held _ ∙ ap (λ (qs : List TaskQueue). is_empty (queue_at c.args.queue qs).items) c.set_if.ensures.queues)
    c.set_if.ensures.sets (c.clear_if.ensures.clears k')

pub returns-clause-room : goal.returns-clause-room
returns-clause-room g c =
    room_same (means g.M.FlowMaker g.M.Flow.Flow g.W.Awaits) c.set_if.new.self c.set_if.ensures.room c.clear_if.new.self c.clear_if.ensures.tasks (ap (λ (x : _). x.ready.room) c.clear_if.ensures.queue)

pub returns-clause-stays : goal.returns-clause-stays
returns-clause-stays g c =
    stays_aside (means g.M.FlowMaker g.M.Flow.Flow g.W.Awaits) g.K.Gpi c.args.self.now c.set_if.new.self c.clear_if.new.self c.args.kernel.now c.set_if.new.kernel c.set_if.ensures.stays
    c.clear_if.ensures.queue c.clear_if.ensures.tasks
