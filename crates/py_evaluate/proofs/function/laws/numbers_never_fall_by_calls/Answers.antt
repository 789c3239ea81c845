use Rattle.py_evaluate.proofs.FunctionLemmas.Onward.{called_rises, method_rises}
use Rattle.py_evaluate.proofs.function.laws.numbers_never_fall_by_calls.Goals as goal

pub returns-clause-function : goal.returns-clause-function
returns-clause-function c = called_rises

pub returns-clause-method : goal.returns-clause-method
returns-clause-method c = method_rises
