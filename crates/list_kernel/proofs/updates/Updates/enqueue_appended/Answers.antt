use Rattle.std.proofs.Common.{◌≡◌, ◌+◌, ◌-◌, ◌<◌, ℕ, length, ap, sym, ◌∙◌, subst, arith, Vec, Global}
use Rattle.gpi.specs.declared.types.Update.{Update}
use Rattle.list_kernel.specs.Updates.{HasRoom}
use Rattle.kernel_base.proofs.Delays.{at_once_more, delaying_more}
use Rattle.list_kernel.proofs.updates.Updates.enqueue_appended.Goals as goal

pub loop-at-preserved : goal.loop-at-preserved
loop-at-preserved c =
    let i = c.loop-at.invariant in
    let us = c.loop-at.self.appended.items in
    let at = c.loop-at.at in
    let u = c.index.result.now in
    let inside : at < length us = omega (arith, c.loop-at.self.appended.ok.0) in
    let more : length us - at ≡ 1 + (length us - (at + 1)) = omega arith in
    let same : length c.enqueue.new.self.appended.items ≡ length us = ap (λ (x : Vec Update Global). length x.items) c.enqueue.ensures.appended in record {
      inside = omega arith;
      due = c.enqueue.ensures.due ∙ i.due;
      appended = c.enqueue.ensures.appended ∙ i.appended;
      later = rw (c.enqueue.ensures.appended, c.enqueue.ensures.later) (at_once_more us at u c.loop-at.self.later.items inside c.index.ensures ∙ i.later);
      delayed = rw (c.enqueue.ensures.appended, c.enqueue.ensures.delayed) (delaying_more c.args.now us at u c.loop-at.self.delayed.items inside c.index.ensures ∙ i.delayed);
      room = subst (λ (n : ℕ). HasRoom (n - (at + 1)) c.enqueue.new.self) (sym same)
          (c.enqueue.ensures.room (length us - (at + 1)) (subst (λ (q : ℕ). HasRoom q c.loop-at.self) more i.room));
    }
