-- One argument more.
use Rattle.std.proofs.Common.{List, map, ap, ◌∙◌}
use Rattle.std.proofs.lemmas.List.{take_all}
use Rattle.py_syntax.specs.StatementTrees.{view_argument}
use Rattle.py_syntax.specs.declared.call.Argument.{Argument}
use Rattle.test_meaning.specs.Body.Views.{view_operand}
use Rattle.test_meaning.specs.declared.body.call.Operand.{Operand}
use Rattle.test_meaning.specs.Bodies.{given_operands}
use Rattle.test_functions.proofs.StatementsLemmas.Written.{given_more}
use Rattle.test_functions.proofs.statements.operands.given_operands.Goals as goal

pub loop-number-preserved : goal.loop-number-preserved
loop-number-preserved g c =
    ap (λ (os : List Operand). map view_operand os) c.in_ok-push.ensures.items
    ∙ given_more (g.M.Meanings.inside c.args.meanings.now) c.args.parameters.now c.args.arguments.now c.loop-number.operands.items c.loop-number.number _ _
    c.loop-number-test.true c.index-arguments-number.is c.place_of-parameter.ensures c.in_ok-value.ensures c.loop-number.invariant

pub returns : goal.returns
returns g c =
    c.loop-number.invariant
    ∙ ap (λ (xs : List Argument). given_operands (g.M.Meanings.inside c.args.meanings.now) c.args.parameters.now 0 (map view_argument xs))
    (take_all c.loop-number.number c.args.arguments.now c.loop-number-test.false)
