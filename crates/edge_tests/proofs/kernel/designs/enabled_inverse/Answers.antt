use Rattle.edge_tests.proofs.KernelLemmas.DesignLaws.{enabled_inverse_made}
use Rattle.edge_tests.proofs.kernel.designs.enabled_inverse.Goals as goal

pub returns : goal.returns
returns c =
    enabled_inverse_made c.value_of-2.result c.value_of.result c.in_ok-inverse.inverse c.arith.result c.value_of-2.ensures c.value_of.ensures
    c.in_ok-inverse.ensures c.arith.ensures
