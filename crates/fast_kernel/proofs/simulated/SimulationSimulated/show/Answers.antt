use Rattle.std.proofs.Common.{refl, ap, set}
use Rattle.event_queue.specs.Queues.{Held, held}
use Rattle.fast_kernel.specs.Kernel.{procs_in}
use Rattle.fast_kernel.proofs.Told.{found_at}
use Rattle.fast_kernel.proofs.Loaded.{shown_stays, widths_kept}
use Rattle.fast_kernel.proofs.Fired.{show_tells}
use Rattle.fast_kernel.proofs.simulated.SimulationSimulated.show.Goals as goal

pub returns-clause-held : goal.returns-clause-held
returns-clause-held c =
    let w = c.wake.ensures.woken _ c.requires.held.waiting.procs in
    let f = c.change-fired.ensures.is (held c.args.self.now.queue).times in
    let stays = shown_stays c.args.self.now c.args.sig.0 c.args.bits c.wake.new.waiters _ c.wake.new.queue c.change-fired.new.self c.requires.held c.requires.sig c.requires.width refl
    c.wake.ensures.waiters c.wake.ensures.processes (ap (λ (h : Held). h.due) w) (ap (λ (h : Held). h.later) w) (ap (λ (h : Held). h.delayed) w) f.signals in
    stays.loaded

pub returns-clause-widths : goal.returns-clause-widths
returns-clause-widths c = widths_kept c.args.self.now.shown.items c.args.sig.0 c.args.bits c.requires.sig c.requires.width

pub returns-clause-is : goal.returns-clause-is
returns-clause-is c =
    let s = c.args.self.now in
    show_tells s c.args.sig c.index-before.result.now c.args.bits c.are_same.result (set s.shown.items c.args.sig.0 c.args.bits) c.wake.new.queue c.change-fired.new.self c.change-fired.result
    (found_at s.shown.items c.args.sig.0 c.index-before.result.now c.requires.sig c.index-before.ensures) c.are_same.ensures c.if-are_same.false refl
    (c.wake.ensures.woken (procs_in s) c.requires.held.waiting.procs) (c.change-fired.ensures.fired (held s.queue).times) (c.change-fired.ensures.is (held s.queue).times)
