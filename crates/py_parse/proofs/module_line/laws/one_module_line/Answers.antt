use Rattle.py_parse.proofs.ModuleLineLemmas.LineLaws.{one_line_law}
use Rattle.py_parse.proofs.module_line.laws.one_module_line.Goals as goal

pub returns : goal.returns
returns c = one_line_law
