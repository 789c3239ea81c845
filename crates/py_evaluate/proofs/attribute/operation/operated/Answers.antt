use Rattle.std.proofs.Common.{◌∙◌}
use Rattle.py_evaluate.proofs.AttributeLemmas.Others.{others}
use Rattle.py_evaluate.proofs.AttributeLemmas.Operators.{binary_known, compared_known}
use Rattle.py_evaluate.proofs.attribute.operation.operated.Goals as goal

pub returns-in-Equal-clause-known : goal.returns-in-Equal-clause-known
returns-in-Equal-clause-known g c = compared_known (g.V.Look.view c.args.view.now) c.args.op c.args.a.now c.args.b.now c.compared.result c.compared.ensures

pub returns-in_default : goal.returns-in_default
returns-in_default g c =
    record {
      is = c.operated.ensures ∙ others (g.V.Look.view c.args.view.now) c.args.op c.args.a.now c.args.b.now c.in_default.not-Equal c.in_default.not-NotEqual;
      known = binary_known (g.V.Look.view c.args.view.now) c.args.op c.args.a.now c.args.b.now c.operated.result c.operated.ensures;
    }
