use Rattle.py_parse.proofs.ParseLaws.{one_module_law}
use Rattle.py_parse.proofs.laws.one_module.Goals as goal

pub returns : goal.returns
returns c = one_module_law
