use Rattle.std.proofs.Common.{◌<◌, length, arith}
use Rattle.kernel_base.proofs.Hiding.{hidden_places}
use Rattle.list_kernel.proofs.Taken.{hidden_wide, hidden_found}
use Rattle.list_kernel.proofs.kernel.ListKernelSimulated.hidden_at.Goals as goal

pub returns-clause-wide : goal.returns-clause-wide
returns-clause-wide c =
    let v = c.args.self.now.values in
    let e = hidden_places v.hidden.items v.shown.items c.requires.held.values.sized.hidden in
    let k = c.requires.sig in
    let inside : c.args.sig.0 < length v.hidden.items = omega arith in
    hidden_wide v.hidden.items v.shown.items c.args.sig.0 c.index.result.now c.requires.held.values.sized.hidden k
    (hidden_found v.hidden.items c.args.sig.0 c.index.result.now inside c.index.ensures)
