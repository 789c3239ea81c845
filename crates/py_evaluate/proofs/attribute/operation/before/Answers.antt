use Rattle.std.proofs.Common.{ap, sym, ◌∙◌}
use Rattle.py_value.specs.declared.value.Value.{Value}
use Rattle.py_value.specs.Operator.Operation.{binary_value}
use Rattle.py_evaluate.specs.Attribute.Look.{is_handle}
use Rattle.py_evaluate.proofs.AttributeLemmas.Others.{stays}
use Rattle.py_evaluate.proofs.attribute.operation.before.Goals as goal

pub returns-in_default : goal.returns-in_default
returns-in_default g c =
    c.operated.ensures
    ∙ ap (λ (v : Value). binary_value c.args.op c.args.a.now v) (sym (stays (g.V.Look.view c.args.view.now) (is_handle c.args.a.now) c.args.b.now c.in_default.not-Signal))
