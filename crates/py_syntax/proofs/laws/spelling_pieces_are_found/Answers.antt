use Rattle.py_syntax.proofs.Finds.{found}
use Rattle.py_syntax.proofs.laws.spelling_pieces_are_found.Goals as goal

pub returns : goal.returns
returns c place text pieces s = found place pieces text s
