-- What was found is what kinds so far break.
use Rattle.std.proofs.Common.{◌≡◌, take, map}
use Rattle.test_meaning.specs.Rules.Uses.{kind_use}
use Rattle.test_names.specs.Uses.Answer.{answer}
use Rattle.test_names.proofs.uses.header.of_kinds.Given as goal

abbrev pub invariant-loop-kind : goal.invariant-loop-kind
invariant-loop-kind g l = l.found ≡ answer (g.S.Scope.file l.scope) (g.S.Scope.around l.scope) (map kind_use (take l.kind-index l.kinds))
