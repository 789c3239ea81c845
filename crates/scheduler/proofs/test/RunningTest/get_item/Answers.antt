-- Where it leads to take an item out of a queue.
use Rattle.std.proofs.Common.{refl}
use Rattle.std.specs.Prelude.{drop}
use Rattle.gpi.specs.Content.{Content}
use Rattle.rig_model.specs.Parts.Queue.{Queue}
use Rattle.run_state.specs.Queue.Fits.{queue_of}
use Rattle.task_queue.specs.Queues.{queue_at}
use Rattle.scheduler.specs.Parts.{Parts, means, parts_of, rig_of}
use Rattle.scheduler.proofs.QueueLaws.{as_many, get_given, get_none, items_queues, turn_aside}
use Rattle.scheduler.proofs.test.RunningTest.get_item.Goals as goal

pub tell_get-requires-clause-turn : goal.tell_get-requires-clause-turn
tell_get-requires-clause-turn g c = turn_aside (means g.M.FlowMaker g.M.Flow.Flow g.W.Awaits) g.K.Gpi c.args.task c.args.self.now c.get_now.new.self c.args.kernel.now c.requires.turn

pub tell_get-requires-clause-queue : goal.tell_get-requires-clause-queue
tell_get-requires-clause-queue g c = rw (c.in-Some.ensures.others, as_many c.args.queue (drop 1 (queue_at c.args.queue c.args.self.now.queues).items) c.args.self.now.queues) c.requires.queue

pub tell_get-requires-clause-queues : goal.tell_get-requires-clause-queues
tell_get-requires-clause-queues g c =
    items_queues c.args.self.now (record c.args.self.now { queues = c.get_now.new.self }) c.args.queue (drop 1 (queue_at c.args.queue c.args.self.now.queues).items) refl
    c.requires.queue c.requires.queues c.in-Some.ensures.others

pub returns-in-Some-clause-leads : goal.returns-in-Some-clause-leads
returns-in-Some-clause-leads g c =
    let m = means g.M.FlowMaker g.M.Flow.Flow g.W.Awaits in
    let p : Parts = parts_of m c.args.self.now in
    let q : Queue = queue_of g.W.Awaits.waiting c.args.self.now.queue in
    let k : Content = g.K.Gpi.content c.args.kernel.now in
    record {
      effect = λ setup. get_given setup c.args.task p q k c.args.queue c.in-Some.item c.get_now.new.self c.in-Some.ensures c.requires.queue c.is_full-was_full.result
          c.is_full-was_full.ensures (rig_of m c.tell_get.new.self (g.K.Gpi.content c.tell_get.new.kernel)) c.tell_get.ensures.tells;
      fine = refl;
      room = c.tell_get.ensures.room;
    }

pub returns-in-None-clause-leads : goal.returns-in-None-clause-leads
returns-in-None-clause-leads g c =
    let m = means g.M.FlowMaker g.M.Flow.Flow g.W.Awaits in
    let p : Parts = parts_of m c.args.self.now in
    let q : Queue = queue_of g.W.Awaits.waiting c.args.self.now.queue in
    let k : Content = g.K.Gpi.content c.args.kernel.now in
    rw c.refused.ensures (record {
      effect = λ setup. get_none setup c.args.task p q k c.args.queue c.get_now.new.self c.in-None.ensures.0 c.in-None.ensures.1;
      fine = refl;
      room = record { whole = c.requires.turn.room.whole; room_is = c.requires.turn.room.room_is };
    })
