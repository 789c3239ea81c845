use Rattle.kernel_base.proofs.Hiding.{hides}
use Rattle.fast_kernel.proofs.Loaded.{hidden_stays}
use Rattle.fast_kernel.proofs.simulated.SimulationSimulated.hide.Goals as goal

pub returns-clause-held : goal.returns-clause-held
returns-clause-held c =
    let s = c.args.self.now in
    let stays = hidden_stays s _ c.requires.held (hides s.hidden.items s.shown.items c.args.sig.0 c.args.bits c.requires.held.hidden c.requires.sig c.requires.width) in
    stays.loaded
