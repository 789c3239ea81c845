-- What one more breaks.
use Rattle.std.proofs.Common.{sym}
use Rattle.test_meaning.specs.Rules.Uses.{kind_use}
use Rattle.test_names.proofs.UsesLemmas.Answers.{nothing, more_mapped, same_at}
use Rattle.test_names.proofs.uses.header.of_kinds.Goals as goal

pub loop-kind-init : goal.loop-kind-init
loop-kind-init g c = sym (nothing _ _)

pub loop-kind-preserved : goal.loop-kind-preserved
loop-kind-preserved g c =
    more_mapped kind_use _ _ _ _ _ _ _ _ c.loop-kind-test.true (same_at _ _ _ c.loop-kind-test.true) c.first_of-found.ensures c.loop-kind.invariant c.of_kind.ensures
