use Rattle.std.proofs.Common.{ap, ◌∙◌, arith}
use Rattle.event_queue.specs.Queues.{Held, held}
use Rattle.fast_kernel.proofs.Opened.{started, still_fresh}
use Rattle.fast_kernel.proofs.opening.start_queue.Goals as goal

pub loop-at-preserved : goal.loop-at-preserved
loop-at-preserved c =
    let i = c.loop-at.invariant in
    let w = c.start.ensures.held in
    let at = c.loop-at.at in
    let x = c.get.result.now in
    let active = (held c.loop-at.queue).active in
    let a = ap (λ (h : Held). h.active) w in record {
      due = ap (λ (h : Held). h.due) w ∙ i.due;
      later = ap (λ (h : Held). h.later) w ∙ i.later;
      delayed = ap (λ (h : Held). h.delayed) w ∙ i.delayed;
      times = ap (λ (h : Held). h.times) w ∙ i.times;
      made = started c.args.processes.now at x active (held c.start.new.queue).active c.get.ensures (i.fresh at (omega arith)) a i.made;
      fresh = still_fresh at x.kind active (held c.start.new.queue).active (i.fresh at (omega arith)) a i.fresh;
      processes = c.start.ensures.processes ∙ i.processes;
    }
