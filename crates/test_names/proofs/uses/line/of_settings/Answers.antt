-- What one more breaks.
use Rattle.std.proofs.Common.{sym}
use Rattle.test_meaning.specs.Rules.Uses.{setting_use}
use Rattle.test_names.proofs.UsesLemmas.Answers.{nothing, more_mapped}
use Rattle.test_names.proofs.uses.line.of_settings.Goals as goal

pub loop-setting-init : goal.loop-setting-init
loop-setting-init g c = sym (nothing _ _)

pub loop-setting-preserved : goal.loop-setting-preserved
loop-setting-preserved g c =
    more_mapped setting_use _ _ _ _ _ _ _ _ c.loop-setting-test.true c.setting-item.is c.first_of-found.ensures c.loop-setting.invariant c.of_setting.ensures
