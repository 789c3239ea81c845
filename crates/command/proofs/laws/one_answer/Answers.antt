use Rattle.command.proofs.OneReading.{one_answer}
use Rattle.command.proofs.laws.one_answer.Goals as goal

pub returns : goal.returns
returns c = one_answer
