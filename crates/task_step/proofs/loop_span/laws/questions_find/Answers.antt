use Rattle.task_step.proofs.LoopSpanLemmas.Questions.{asks_found}
use Rattle.task_step.proofs.loop_span.laws.questions_find.Goals as goal

pub returns : goal.returns
returns c = asks_found
