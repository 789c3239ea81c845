use Rattle.py_expression.specs.Shown.{height_limit}
use Rattle.std.proofs.Common.{arith}
use Rattle.py_expression.proofs.Again.{level_positive}
use Rattle.py_expression.proofs.ReaderLaws.{found_law, only_law}
use Rattle.py_expression.proofs.reader.expression.Goals as goal

pub returns-clause-found : goal.returns-clause-found
returns-clause-found c = found_law height_limit 1 c.args.tokens.now c.read.result (omega arith) c.read.ensures

pub returns-clause-only : goal.returns-clause-only
returns-clause-only c = λ e rest s stops. only_law height_limit 1 c.args.tokens.now c.read.result e rest c.read.ensures s (level_positive e) stops
