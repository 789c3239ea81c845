use Rattle.py_expression.proofs.ReaderLaws.{one_expression_law}
use Rattle.py_expression.proofs.laws.one_expression.Goals as goal

pub returns : goal.returns
returns c = one_expression_law
