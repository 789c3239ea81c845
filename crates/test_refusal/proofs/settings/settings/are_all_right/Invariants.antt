-- All options so far are right.
use Rattle.std.proofs.Common.{◌≡◌, drop}
use Rattle.std.specs.List.{list_all}
use Rattle.test_meaning.specs.Rules.Rules.{is_right_setting}
use Rattle.test_refusal.proofs.settings.settings.are_all_right.Given as goal

abbrev pub invariant-loop-setting : goal.invariant-loop-setting
invariant-loop-setting g l = list_all (is_right_setting (g.V.Values.file l.values)) l.settings
    ≡ list_all (is_right_setting (g.V.Values.file l.values)) (drop l.setting-index l.settings)
