use Rattle.py_parse.proofs.ModuleLineLemmas.LineLaws.{found_law, only_law}
use Rattle.py_parse.proofs.module_line.line.module_line.Goals as goal

pub returns-clause-found : goal.returns-clause-found
returns-clause-found c = found_law c.args.tokens.now c.whole_line.result c.whole_line.ensures

pub returns-clause-only : goal.returns-clause-only
returns-clause-only c = λ line h. only_law c.args.tokens.now c.whole_line.result line c.whole_line.ensures h
