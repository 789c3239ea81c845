use Rattle.py_evaluate.proofs.FunctionLemmas.Known.{found_known, not_given}
use Rattle.py_evaluate.proofs.function.argument.argument.Goals as goal

pub returns-then-at-values-clause-known : goal.returns-then-at-values-clause-known
returns-then-at-values-clause-known c = λ view k. found_known view c.args.values.now c.args.at c.index-values-at.result c.if-at-values.true c.index-values-at.is k

pub returns-else-at-values-clause-is : goal.returns-else-at-values-clause-is
returns-else-at-values-clause-is c = not_given c.args.values.now c.args.at c.if-at-values.false
