use Rattle.py_value.proofs.OperatorLemmas.Digits.{same_by}
use Rattle.py_value.proofs.operator.identity.same_digits.Goals as goal

pub returns : goal.returns
returns c = same_by _ _ _ c.is_same.ensures
