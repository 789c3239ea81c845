-- What one more breaks.
use Rattle.std.proofs.Common.{sym}
use Rattle.test_meaning.specs.Rules.Uses.{default_uses}
use Rattle.test_names.proofs.UsesLemmas.Answers.{nothing, more}
use Rattle.test_names.proofs.uses.line.of_defaults.Goals as goal

pub loop-parameter-init : goal.loop-parameter-init
loop-parameter-init g c = sym (nothing _ _)

pub loop-parameter-preserved : goal.loop-parameter-preserved
loop-parameter-preserved g c =
    more default_uses _ _ _ _ _ _ _ _ c.loop-parameter-test.true c.parameter-item.is c.first_of-found.ensures c.loop-parameter.invariant c.of_default.ensures
