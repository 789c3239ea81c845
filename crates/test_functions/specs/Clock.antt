-- A means of proof: the block in the loop of `Clock.start`.
use Rattle.py_syntax.specs.ExpressionTrees.{Infix}
use Rattle.py_syntax.specs.declared.expression.BinOp.TheVariants as op
use Rattle.py_syntax.specs.declared.expression.Operation.TheVariants.{Binary}
use Rattle.test_meaning.specs.Body.BodyTrees.{Block, NoItem, Then}
use Rattle.test_meaning.specs.Library.{count, first, set_count, wait_half, whole, write}

abbrev pub cycle : Block
cycle =
    Then (write first) (Then wait_half (Then (write (Infix (Binary op.Subtract) (whole 1) first)) (Then wait_half
    (Then (set_count (Infix (Binary op.Add) count (whole 1))) NoItem))))
