use Rattle.py_expression.proofs.PhraseLemmas.ConstantLaws.{found_law, only_law}
use Rattle.py_expression.proofs.phrase.constant.constants.Goals as goal

pub returns-clause-found : goal.returns-clause-found
returns-clause-found c = found_law c.args.tokens.now c.listed.result c.listed.ensures

pub returns-clause-only : goal.returns-clause-only
returns-clause-only c = λ cs rest h. only_law c.args.tokens.now c.listed.result cs rest c.listed.ensures h
