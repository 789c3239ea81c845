-- A means of proof: the functions that can be called, for the proofs of tasks.
use Rattle.std.specs.Prelude.{List, map}
use Rattle.test_meaning.specs.Body.BodyTrees.{Function}
use Rattle.task_core.specs.Code.Reading.{Reading}
use Rattle.task_core.specs.declared.code.function.Callable.{Callable}

abbrev pub function_of : {C : Type 0} → (C → Reading) → Callable C → Function
function_of r f = record { parameters = f.parameters.now; others = f.others.now; body = (r f.body).block }
