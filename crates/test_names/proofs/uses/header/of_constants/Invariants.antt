-- What was found is what constants so far break.
use Rattle.std.proofs.Common.{◌≡◌, take, map}
use Rattle.test_meaning.specs.Rules.Uses.{Takes}
use Rattle.test_names.specs.Uses.Answer.{answer}
use Rattle.test_names.proofs.uses.header.of_constants.Given as goal

abbrev pub invariant-loop-constant : goal.invariant-loop-constant
invariant-loop-constant g l = l.found ≡ answer (g.S.Scope.file l.scope) (g.S.Scope.around l.scope) (map Takes (take l.constant-index l.constants))
