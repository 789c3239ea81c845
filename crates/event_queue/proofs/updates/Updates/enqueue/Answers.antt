use Rattle.std.proofs.Common.{◌≡◌, ◌+◌, ◌-◌, ◌∙◌, ℕ, length, subst, arith}
use Rattle.event_queue.specs.Held.{delayed_of, later_of, HasRoom}
use Rattle.kernel_base.proofs.Delays.{at_once_more, delaying_more}
use Rattle.event_queue.proofs.updates.Updates.enqueue.Goals as goal

pub loop-update-preserved : goal.loop-update-preserved
loop-update-preserved c =
    let i = c.loop-update.invariant in
    let us = c.args.updates.now in
    let at = c.loop-update.update-index in
    let u = c.update-item.result in
    let more : length us - at ≡ 1 + (length us - (at + 1)) = omega arith in record {
      due = c.enqueue_one.ensures.due ∙ i.due;
      later = rw c.enqueue_one.ensures.later (at_once_more us at u (later_of c.loop-update.self) c.loop-update-test.true c.update-item.is ∙ i.later);
      delayed = rw c.enqueue_one.ensures.delayed (delaying_more c.args.now us at u (delayed_of c.loop-update.self) c.loop-update-test.true c.update-item.is ∙ i.delayed);
      room = c.enqueue_one.ensures.room (length us - (at + 1)) (subst (λ (q : ℕ). HasRoom q c.loop-update.self) more i.room);
    }
