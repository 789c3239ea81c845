-- What was found is what options so far break.
use Rattle.std.proofs.Common.{◌≡◌, take, map}
use Rattle.test_meaning.specs.Rules.Uses.{setting_use}
use Rattle.test_names.specs.Uses.Answer.{answer}
use Rattle.test_names.proofs.uses.line.of_settings.Given as goal

abbrev pub invariant-loop-setting : goal.invariant-loop-setting
invariant-loop-setting g l = l.found ≡ answer (g.S.Scope.file l.scope) (g.S.Scope.around l.scope) (map setting_use (take l.setting-index l.settings))
