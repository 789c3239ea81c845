use Rattle.std.proofs.Common.{◌≡◌, length, arith}
use Rattle.std.proofs.lemmas.Grind.{common_steps}
use Rattle.gpi.specs.Design.{procs_of}
use Rattle.fast_kernel.proofs.Making.{length_procs}
use Rattle.fast_kernel.proofs.waiters.Waiters.of.Goals as goal

pub returns-clause-of : goal.returns-clause-of
returns-clause-of c =
    let n : length (procs_of c.args.processes.now) ≡ length c.args.processes.now = length_procs c.args.processes.now in
    record {
      count = grind (arith, common_steps);
      chains = λ s h. c.in_ok-chains.ensures.chains s (rw (← c.in_ok-chains.ensures.signals) h);
    }
