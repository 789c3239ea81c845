-- A means of proof: steps of a call that evaluate nothing, and conditions, for the proofs of a task's steps.
use Rattle.std.specs.Prelude.{ℕ, Bool}
use Rattle.py_syntax.specs.ExpressionTrees.{Tree}
use Rattle.py_value.specs.Truth.{truth}
use Rattle.py_value.specs.declared.trigger.TaskNo.{TaskNo}
use Rattle.py_evaluate.specs.Attribute.Look.{View}
use Rattle.py_evaluate.specs.Attribute.Outcome.{Outcome, Scope, gives, bind}
use Rattle.py_evaluate.specs.Eval.{eval}
use Rattle.rig_model.specs.Task.Moves.{At, Move}
use Rattle.task_core.specs.Code.Reading.{Reading}
use Rattle.task_core.specs.OpenCall.Call.{Moved, at_in}
use Rattle.task_core.specs.declared.open_call.call.OpenCall.{OpenCall}
use Rattle.task_core.specs.declared.open_call.course.Wish.{Wish}

-- Whatever the task and what it sees, the move from the place where the call was is the call after it, with this wish; the number of the next trigger
-- stays.
abbrev pub IsStep : {C : Type 0} → (C → Reading) → (At → Move) → OpenCall C → OpenCall C → Wish → Type 0
IsStep r move before after wish = (task : TaskNo) (view : View) (next : ℕ) → Moved r (move (at_in r task view before next)) after next wish

-- whether a condition holds
abbrev pub eval_condition : Scope → Tree → ℕ → Outcome Bool
eval_condition s e k = bind (eval s e k) (λ v j. gives (truth v) j)
