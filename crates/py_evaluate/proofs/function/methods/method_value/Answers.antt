use Rattle.py_evaluate.proofs.AttributeLemmas.Plain.{lift_known}
use Rattle.py_evaluate.specs.Function.Functions as meaning
use Rattle.py_evaluate.proofs.FunctionLemmas.Known.{method_known}
use Rattle.py_evaluate.proofs.function.methods.method_value.Goals as goal

pub returns-clause-known : goal.returns-clause-known
returns-clause-known g c =
    let view = g.V.Look.view c.args.view.now in
    let o = meaning.method_value c.args.task view c.args.v.now c.args.method c.args.next.now in
    lift_known view o c.method_call.result c.method_call.new.next (method_known c.args.task view c.args.v.now c.args.method c.args.next.now c.requires) c.method_call.ensures.is
