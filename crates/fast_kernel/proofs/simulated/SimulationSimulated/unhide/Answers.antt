use Rattle.std.proofs.Common.{◌≡◌, length, arith}
use Rattle.kernel_base.proofs.Hiding.{unhides, hidden_places}
use Rattle.fast_kernel.proofs.Loaded.{hidden_stays}
use Rattle.fast_kernel.proofs.simulated.SimulationSimulated.unhide.Goals as goal

pub index_mut-requires : goal.index_mut-requires
index_mut-requires c =
    let s = c.args.self.now in
    let e : length s.hidden.items ≡ length s.shown.items = hidden_places s.hidden.items s.shown.items c.requires.held.hidden in
    let k = c.requires.sig in
    omega (arith, s.hidden.ok)

pub returns-clause-held : goal.returns-clause-held
returns-clause-held c =
    let s = c.args.self.now in
    let stays = hidden_stays s _ c.requires.held (unhides s.hidden.items s.shown.items c.args.sig.0 c.requires.held.hidden c.requires.sig) in
    stays.loaded
