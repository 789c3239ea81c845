use Rattle.py_syntax.proofs.Once.{spelled_once}
use Rattle.py_lex.proofs.reader.one_reading.Goals as goal

pub returns : goal.returns
returns c = spelled_once
