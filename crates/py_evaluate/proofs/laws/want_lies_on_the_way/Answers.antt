use Rattle.py_evaluate.proofs.Onward.{eval_between}
use Rattle.py_evaluate.proofs.laws.want_lies_on_the_way.Goals as goal

pub returns : goal.returns
returns c = eval_between
