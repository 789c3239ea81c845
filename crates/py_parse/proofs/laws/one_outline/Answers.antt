use Rattle.py_syntax.specs.Outline.{at_start}
use Rattle.py_parse.proofs.OutlineLaws.{one_outline}
use Rattle.py_parse.proofs.laws.one_outline.Goals as goal

pub returns : goal.returns
returns c = λ text lines others a b. one_outline at_start text lines others a b
