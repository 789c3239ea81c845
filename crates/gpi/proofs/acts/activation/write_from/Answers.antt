use Rattle.std.proofs.Common.{arith}
use Rattle.gpi.specs.Terms.{widths_of}
use Rattle.gpi.proofs.Steps.{fitting_at}
use Rattle.gpi.proofs.acts.activation.write_from.Goals as goal

pub write-requires-clause-fits : goal.write-requires-clause-fits
write-requires-clause-fits c =
    rw c.loop-at.invariant.widths
    (fitting_at c.args.updates.now.items c.loop-at.at c.index.result.now (widths_of c.args.signals.now.items) (omega arith) c.index.ensures c.requires.fits)
