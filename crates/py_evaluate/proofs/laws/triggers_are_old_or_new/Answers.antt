use Rattle.py_evaluate.proofs.Numbers.{eval_each}
use Rattle.py_evaluate.proofs.laws.triggers_are_old_or_new.Goals as goal

pub returns : goal.returns
returns c = eval_each
