-- A means of proof: limits of time, evaluated (cocotb 1.8, `with_timeout`), for the proofs of a task's statements.
use Rattle.std.specs.Prelude.{ℕ, Option}
use Rattle.py_syntax.specs.ExpressionTrees.{Tree}
use Rattle.py_evaluate.specs.Attribute.Outcome.{Outcome, Scope, gives, bind}
use Rattle.py_evaluate.specs.Eval.{eval}
use Rattle.rig_model.specs.Task.Awaits.{Time}
use Rattle.rig_model.specs.Task.Moves.{eval_some}
use Rattle.task_step.specs.declared.task_values.times.Time as code

-- what the code's time stands for
abbrev pub time_in : code.Time → Time
time_in t = record { number = t.number.value; unit = t.unit }

-- the time, and then its unit
abbrev pub eval_time : Scope → Tree → Option Tree → ℕ → Outcome Time
eval_time s time unit k = bind (eval s time k) (λ t j. bind (eval_some s unit j) (λ u i. gives (record { number = t; unit = u }) i))
