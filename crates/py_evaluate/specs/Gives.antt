-- A means of proof: what an evaluation tells its caller, for the proofs of evaluation.
use Rattle.std.specs.Prelude.{◌≡◌, ℕ, Result, Ok, Err}
use Rattle.py_value.specs.Answer.{raised}
use Rattle.py_value.specs.declared.trigger.TaskNo.{TaskNo}
use Rattle.py_value.specs.declared.value.Value.{Value}
use Rattle.py_value.specs.declared.value.Fault.{Fault}
use Rattle.py_syntax.specs.ExpressionTrees.{Tree}
use Rattle.py_evaluate.specs.declared.attribute.fault.OperationFault.{OperationFault}
use Rattle.py_evaluate.specs.Attribute.Look.{View, Names}
use Rattle.py_evaluate.specs.Attribute.Knows.{Knows}
use Rattle.py_evaluate.specs.Attribute.Outcome.{Outcome, Scope, Evaluates, gives}
use Rattle.py_evaluate.specs.Eval.{eval}
use Rattle.py_evaluate.specs.Wants.{Wants}
use Rattle.py_evaluate.specs.declared.evaluation.EvalFault.{EvalFault}
use Rattle.py_evaluate.specs.declared.evaluation.EvalFault.TheVariants as fault

abbrev pub scope : TaskNo → Names → View → Scope
scope task names view = record { task = task; names = names; view = view }

-- an outcome with the fault itself in place of its kind
pub record Ended : Type 0 where
  pub result : Result Value Fault
  pub next : ℕ

abbrev pub raised_outcome : Outcome Value → Ended
raised_outcome o = record { result = raised o.answer; next = o.next }

-- the value of an expression, which the view knows, or its fault, and the next number; or memory ran out, where it may
abbrev pub Gives : Scope → Tree → ℕ → Result Value EvalFault → ℕ → Type 0
Gives s e old (Ok v) k = (eval s e old ≡ gives v k) × Knows s.view v
Gives s e old (Err (fault.Raised f)) k = raised_outcome (eval s e old) ≡ record { result = Err f; next = k }
Gives s e old (Err fault.OutOfMemory) k = Wants s e old k

-- the same within the evaluation, where a fault is known by its kind; and the next number doesn't fall
abbrev pub Evaluated : Scope → Tree → ℕ → Result Value OperationFault → ℕ → Type 0
Evaluated s e old result k = Evaluates s.view result old k (eval s e old) (Wants s e old k)
