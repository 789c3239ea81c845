use Rattle.std.proofs.Common.{◌∙◌}
use Rattle.py_value.proofs.OperatorLemmas.Others.{others}
use Rattle.py_value.proofs.operator.operation.operated.Goals as goal

pub returns-in_default : goal.returns-in_default
returns-in_default c =
    c.on_numbers.ensures ∙ others c.args.op c.args.a.now c.args.b.now c.in_default.not-Equal c.in_default.not-NotEqual c.in_default.not-Is c.in_default.not-IsNot
