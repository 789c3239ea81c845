-- None of the options so far has the name.
use Rattle.std.proofs.Common.{◌≡◌, drop}
use Rattle.test_meaning.specs.Rules.Names.{is_among}
use Rattle.test_meaning.specs.Rules.Rules.{setting_names}
use Rattle.test_refusal.proofs.settings.settings.is_given.Given as goal

abbrev pub invariant-loop-setting : goal.invariant-loop-setting
invariant-loop-setting l = is_among l.name (setting_names l.settings) ≡ is_among l.name (setting_names (drop l.setting-index l.settings))
