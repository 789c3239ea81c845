-- What was found is what defaults so far break.
use Rattle.std.proofs.Common.{◌≡◌, take}
use Rattle.std.specs.List.{flat_map}
use Rattle.test_meaning.specs.Rules.Uses.{default_uses}
use Rattle.test_names.specs.Uses.Answer.{answer}
use Rattle.test_names.proofs.uses.line.of_defaults.Given as goal

abbrev pub invariant-loop-parameter : goal.invariant-loop-parameter
invariant-loop-parameter g l = l.found ≡ answer (g.S.Scope.file l.scope) (g.S.Scope.around l.scope) (flat_map default_uses (take l.parameter-index l.parameters))
