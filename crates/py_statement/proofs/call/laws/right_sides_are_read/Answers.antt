use Rattle.py_statement.proofs.CallLemmas.RightLaws.{right_sound, right_again}
use Rattle.py_statement.proofs.CallLemmas.HeightLaws.{right_fits}
use Rattle.py_statement.proofs.call.laws.right_sides_are_read.Goals as goal

pub returns-clause-sound : goal.returns-clause-sound
returns-clause-sound c = right_sound

pub returns-clause-again : goal.returns-clause-again
returns-clause-again c = right_again

pub returns-clause-whole : goal.returns-clause-whole
returns-clause-whole c = λ limit x h. (right_fits limit x).whole h

pub returns-clause-over : goal.returns-clause-over
returns-clause-over c = λ limit x h. (right_fits limit x).over h
