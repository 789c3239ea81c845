use Rattle.std.proofs.Common.{◌∙◌, ap}
use Rattle.py_value.specs.Truth as meaning
use Rattle.py_value.proofs.Folded.{folded}
use Rattle.py_value.proofs.conditions.has_one.Goals as goal

pub returns : goal.returns
returns c = c.is_one.ensures ∙ (ap meaning.is_one c.reduce_or.ensures ∙ folded c.args.bits)
