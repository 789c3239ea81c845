-- Where a put into a queue leads.
use Rattle.std.proofs.Common.{ℕ, ap, ◌∙◌, refl, ◌∷◌, [], ◌++◌}
use Rattle.std.specs.Prelude.{◌==◌}
use Rattle.gpi.specs.Content.{Content}
use Rattle.rig_model.specs.Parts.Queue.{Queue}
use Rattle.run_state.specs.Queue.Fits.{queue_of}
use Rattle.task_queue.specs.Puts.{after_put}
use Rattle.task_queue.specs.Queues.{TaskQueue, queue_at}
use Rattle.task_queue.specs.declared.kept.PutAnswer.{PutAnswer}
use Rattle.scheduler.specs.Parts.{Parts, means, parts_of, rig_of}
use Rattle.scheduler.proofs.QueueLaws.{as_many, items_queues, put_full, put_limit, put_stored, turn_aside}
use Rattle.scheduler.proofs.test.RunningTest.put_item.Goals as goal

pub tell_put-requires-clause-turn : goal.tell_put-requires-clause-turn
tell_put-requires-clause-turn g c = turn_aside (means g.M.FlowMaker g.M.Flow.Flow g.W.Awaits) g.K.Gpi c.args.task c.args.self.now c.put_now.new.self c.args.kernel.now c.requires.turn

pub tell_put-requires-clause-queue : goal.tell_put-requires-clause-queue
tell_put-requires-clause-queue g c =
    rw (c.in_ok-put_now.ensures.ok, c.in-Stored.is, as_many c.args.queue ((queue_at c.args.queue c.args.self.now.queues).items ++ c.args.item ∷ []) c.args.self.now.queues) c.requires.queue

pub tell_put-requires-clause-queues : goal.tell_put-requires-clause-queues
tell_put-requires-clause-queues g c =
    items_queues c.args.self.now (record c.args.self.now { queues = c.put_now.new.self }) c.args.queue ((queue_at c.args.queue c.args.self.now.queues).items ++ c.args.item ∷ []) refl
    c.requires.queue c.requires.queues
    (c.in_ok-put_now.ensures.ok ∙ ap (λ (a : PutAnswer). after_put a c.args.queue c.args.item c.args.self.now.queues) c.in-Stored.is)

pub returns-in-Stored-clause-leads : goal.returns-in-Stored-clause-leads
returns-in-Stored-clause-leads g c =
    let m = means g.M.FlowMaker g.M.Flow.Flow g.W.Awaits in
    let p : Parts = parts_of m c.args.self.now in
    let q : Queue = queue_of g.W.Awaits.waiting c.args.self.now.queue in
    let k : Content = g.K.Gpi.content c.args.kernel.now in
    record {
      effect = λ setup. put_stored setup c.args.task p q k c.args.queue c.args.item c.put_now.new.self c.in_ok-put_now.field-0 c.in_ok-put_now.ensures.answer
          c.in_ok-put_now.ensures.ok c.requires.queue _ (ap (λ (n : ℕ). n == 0) c.len-held.ensures) c.in-Stored.is (rig_of m c.tell_put.new.self (g.K.Gpi.content c.tell_put.new.kernel))
          c.tell_put.ensures.tells;
      fine = refl;
      room = c.tell_put.ensures.room;
    }

pub returns-in-Full-clause-leads : goal.returns-in-Full-clause-leads
returns-in-Full-clause-leads g c =
    let m = means g.M.FlowMaker g.M.Flow.Flow g.W.Awaits in
    let p : Parts = parts_of m c.args.self.now in
    let q : Queue = queue_of g.W.Awaits.waiting c.args.self.now.queue in
    let k : Content = g.K.Gpi.content c.args.kernel.now in
    rw c.refused.ensures (record {
      effect = λ setup. put_full setup c.args.task p q k c.args.queue c.args.item c.put_now.new.self c.in_ok-put_now.field-0 c.in_ok-put_now.ensures.answer
          c.in_ok-put_now.ensures.ok c.in-Full.is;
      fine = refl;
      room = record { whole = c.requires.turn.room.whole; room_is = c.requires.turn.room.room_is };
    })

pub returns-in-AtLimit-clause-leads : goal.returns-in-AtLimit-clause-leads
returns-in-AtLimit-clause-leads g c =
    let m = means g.M.FlowMaker g.M.Flow.Flow g.W.Awaits in
    let p : Parts = parts_of m c.args.self.now in
    let q : Queue = queue_of g.W.Awaits.waiting c.args.self.now.queue in
    let k : Content = g.K.Gpi.content c.args.kernel.now in
    rw c.refused-in-AtLimit.ensures (record {
      effect = λ setup. put_limit setup c.args.task p q k c.args.queue c.args.item c.put_now.new.self c.in_ok-put_now.field-0 c.in_ok-put_now.ensures.answer
          c.in_ok-put_now.ensures.ok c.in-AtLimit.is;
      fine = refl;
      room = record { whole = c.requires.turn.room.whole; room_is = c.requires.turn.room.room_is };
    })
