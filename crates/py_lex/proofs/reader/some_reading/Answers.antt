use Rattle.py_syntax.proofs.Stands.{spelled}
use Rattle.py_lex.proofs.Pieces.{made}
use Rattle.py_lex.proofs.reader.some_reading.Goals as goal

pub returns : goal.returns
returns c place text q = let m = made place text in (m.pieces, spelled place text m.pieces q m.is)
