use Rattle.std.proofs.Common.{◌<◌, length, arith}
use Rattle.kernel_base.proofs.Hiding.{hidden_places}
use Rattle.fast_kernel.proofs.Taken.{hidden_wide, hidden_found}
use Rattle.fast_kernel.proofs.simulated.SimulationSimulated.hidden_at.Goals as goal

pub returns-clause-wide : goal.returns-clause-wide
returns-clause-wide c =
    let s = c.args.self.now in
    let e = hidden_places s.hidden.items s.shown.items c.requires.held.hidden in
    let k = c.requires.sig in
    let inside : c.args.sig.0 < length s.hidden.items = omega arith in
    hidden_wide s.hidden.items s.shown.items c.args.sig.0 c.index.result.now c.requires.held.hidden k
    (hidden_found s.hidden.items c.args.sig.0 c.index.result.now inside c.index.ensures)
