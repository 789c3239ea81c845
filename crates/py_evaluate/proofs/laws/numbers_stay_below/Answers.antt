use Rattle.py_evaluate.proofs.Numbers.{eval_below}
use Rattle.py_evaluate.proofs.laws.numbers_stay_below.Goals as goal

pub returns : goal.returns
returns c = eval_below
