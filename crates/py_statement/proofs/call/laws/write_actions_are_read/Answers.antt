use Rattle.py_statement.proofs.CallLemmas.WriteLaws.{write_action_sound, write_action_again}
use Rattle.py_statement.proofs.CallLemmas.HeightLaws.{write_action_fits}
use Rattle.py_statement.proofs.call.laws.write_actions_are_read.Goals as goal

pub returns-clause-sound : goal.returns-clause-sound
returns-clause-sound c = write_action_sound

pub returns-clause-again : goal.returns-clause-again
returns-clause-again c = write_action_again

pub returns-clause-whole : goal.returns-clause-whole
returns-clause-whole c = λ limit x h. (write_action_fits limit x).whole h

pub returns-clause-over : goal.returns-clause-over
returns-clause-over c = λ limit x h. (write_action_fits limit x).over h
