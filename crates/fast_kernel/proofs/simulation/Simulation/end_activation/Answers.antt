use Rattle.std.proofs.Common.{◌∙◌, drop, ap, sym, ℕ}
use Rattle.fast_kernel.specs.Kernel.{procs_in}
use Rattle.fast_kernel.proofs.Ran.{woken_content}
use Rattle.fast_kernel.proofs.simulation.Simulation.end_activation.Goals as goal

pub returns-clause-is : goal.returns-clause-is
returns-clause-is c =
    let s = c.args.self.now in
    woken_content s c.args.process c.index.result.now c.wake.new.waiters c.wake.new.queue c.deref.result.now c.own_of.result c.requires.below c.index.ensures
    (c.deref.ensures.value ∙ sym (ap (λ (n : ℕ). drop n s.reports.items) c.requires.untold)) c.own_of.ensures (c.wake.ensures.woken (procs_in s) c.requires.loaded.waiting.procs)
