use Rattle.py_parse.proofs.ParseLaws as laws
use Rattle.py_parse.proofs.laws.one_module_of_bytes.Goals as goal

pub returns : goal.returns
returns c = laws.one_module_of_bytes
