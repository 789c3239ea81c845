-- The operands so far.
use Rattle.std.proofs.Common.{◌≡◌, map, take}
use Rattle.py_syntax.specs.StatementTrees.{view_argument}
use Rattle.test_meaning.specs.Body.Views.{view_operand}
use Rattle.test_meaning.specs.Bodies.{given_operands}
use Rattle.test_functions.proofs.statements.operands.given_operands.Given as goal

abbrev pub invariant-loop-number : goal.invariant-loop-number
invariant-loop-number g l =
    map view_operand l.operands.items ≡ given_operands (g.M.Meanings.inside l.meanings) l.parameters 0 (map view_argument (take l.number l.arguments))
