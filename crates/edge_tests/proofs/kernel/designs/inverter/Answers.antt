use Rattle.std.proofs.Common.{rules}
use Rattle.edge_tests.proofs.KernelLemmas.DesignLaws.{inverter_made}
use Rattle.edge_tests.proofs.kernel.designs.inverter.Goals as goal

pub returns : goal.returns
returns c = inverter_made c.in_ok-process.process _ c.one_process.result c.in_ok-process.ensures c.one_process.ensures (search rules)
