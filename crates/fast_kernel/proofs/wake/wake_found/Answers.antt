use Rattle.std.proofs.Common.{◌∙◌, ℕ, get_or, ap, refl, sym, subst, ◌<◌}
use Rattle.event_queue.specs.Queues.{Held, held, processes_of}
use Rattle.fast_kernel.proofs.Woken.{below_at, found_step, fresh_step, first_fresh}
use Rattle.fast_kernel.proofs.wake.wake_found.Goals as goal

pub wake_other-requires : goal.wake_other-requires
wake_other-requires c =
    let p = get_or c.args.found.now c.loop-process.process-index 0 in
    subst (λ (n : ℕ). p < n) (sym c.loop-process.invariant.processes)
    (below_at (processes_of c.args.queue.now) c.args.found.now c.loop-process.process-index p c.loop-process-test.true refl c.requires.below)

pub loop-process-preserved : goal.loop-process-preserved
loop-process-preserved c =
    let i = c.loop-process.invariant in
    let n = c.loop-process.process-index in
    let found = c.args.found.now in
    let p = get_or found n 0 in
    let first = (held c.args.queue.now).active in
    let active = (held c.loop-process.queue).active in
    let next = (held c.wake_other.new.queue).active in
    let w = c.wake_other.ensures.woken in
    let a = ap (λ (h : Held). h.active) w in record {
      due = ap (λ (h : Held). h.due) w ∙ i.due;
      later = ap (λ (h : Held). h.later) w ∙ i.later;
      delayed = ap (λ (h : Held). h.delayed) w ∙ i.delayed;
      times = ap (λ (h : Held). h.times) w ∙ i.times;
      active = found_step c.args.own first active next found n p c.loop-process-test.true refl a (first_fresh c.args.own first active found n p c.loop-process-test.true refl i.fresh) i.active;
      fresh = fresh_step c.args.own first active next found n p c.loop-process-test.true refl c.requires.distinct a i.fresh;
      processes = c.wake_other.ensures.processes ∙ i.processes;
    }
