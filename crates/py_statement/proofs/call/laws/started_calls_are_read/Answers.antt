use Rattle.py_statement.proofs.CallLemmas.StartedLaws.{started_sound, started_again}
use Rattle.py_statement.proofs.CallLemmas.HeightLaws.{started_fits}
use Rattle.py_statement.proofs.call.laws.started_calls_are_read.Goals as goal

pub returns-clause-sound : goal.returns-clause-sound
returns-clause-sound c = started_sound

pub returns-clause-again : goal.returns-clause-again
returns-clause-again c = started_again

pub returns-clause-whole : goal.returns-clause-whole
returns-clause-whole c = λ limit x h. (started_fits limit x).whole h

pub returns-clause-over : goal.returns-clause-over
returns-clause-over c = λ limit x h. (started_fits limit x).over h
