use Rattle.py_evaluate.proofs.Onward.{eval_rises}
use Rattle.py_evaluate.proofs.laws.numbers_never_fall.Goals as goal

pub returns : goal.returns
returns c = eval_rises
