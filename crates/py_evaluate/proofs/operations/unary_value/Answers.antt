-- What the operator gives is what `unary` raises, without the text of the fault.
use Rattle.py_value.specs.Operator.Operation.{unary_value}
use Rattle.py_evaluate.proofs.Plain.{raised_value, raised_kind}
use Rattle.py_evaluate.proofs.operations.unary_value.Goals as goal

pub returns-in-Ok-clause-is : goal.returns-in-Ok-clause-is
returns-in-Ok-clause-is g c = raised_value (unary_value c.args.op c.args.v) c.unary.result c.in-Ok.v c.in-Ok.is c.unary.ensures

pub returns-in-Err-clause-is : goal.returns-in-Err-clause-is
returns-in-Err-clause-is g c = raised_kind (unary_value c.args.op c.args.v) c.unary.result c.in-Err.fault c.in-Err.is c.unary.ensures
