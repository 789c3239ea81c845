use Rattle.py_statement.proofs.CallLemmas.AwaitedLaws.{awaited_sound, awaited_again}
use Rattle.py_statement.proofs.CallLemmas.HeightLaws.{awaited_fits}
use Rattle.py_statement.proofs.call.laws.await_operands_are_read.Goals as goal

pub returns-clause-sound : goal.returns-clause-sound
returns-clause-sound c = awaited_sound

pub returns-clause-again : goal.returns-clause-again
returns-clause-again c = awaited_again

pub returns-clause-whole : goal.returns-clause-whole
returns-clause-whole c = λ limit x h. (awaited_fits limit x).whole h

pub returns-clause-over : goal.returns-clause-over
returns-clause-over c = λ limit x h. (awaited_fits limit x).over h
