-- What one more breaks.
use Rattle.std.proofs.Common.{sym}
use Rattle.test_meaning.specs.Rules.Uses.{Takes}
use Rattle.test_names.proofs.UsesLemmas.Answers.{nothing, more_mapped}
use Rattle.test_names.proofs.uses.header.of_constants.Goals as goal

pub loop-constant-init : goal.loop-constant-init
loop-constant-init g c = sym (nothing _ _)

pub loop-constant-preserved : goal.loop-constant-preserved
loop-constant-preserved g c =
    more_mapped Takes _ _ _ _ _ _ _ _ c.loop-constant-test.true c.constant-item.is c.first_of-found.ensures c.loop-constant.invariant c.takes.ensures
