-- What was found is what the values so far break.
use Rattle.std.proofs.Common.{◌≡◌, take}
use Rattle.std.specs.List.{flat_map}
use Rattle.py_syntax.specs.ExpressionTrees.{view}
use Rattle.test_meaning.specs.Rules.Uses.{tree_uses}
use Rattle.test_names.specs.Uses.Answer.{answer}
use Rattle.test_names.proofs.uses.call.of_arguments.Given as goal

abbrev pub invariant-loop-argument : goal.invariant-loop-argument
invariant-loop-argument g l =
    l.found ≡ answer (g.S.Scope.file l.scope) (g.S.Scope.around l.scope) (flat_map (λ a. tree_uses (view a.value)) (take l.argument-index l.arguments))
