use Rattle.py_syntax.proofs.Stands.{spelled}
use Rattle.py_syntax.proofs.laws.pieces_spell_the_text.Goals as goal

pub returns : goal.returns
returns c place text pieces q m = spelled place text pieces q m
