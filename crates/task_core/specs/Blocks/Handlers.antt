-- A means of proof: the first `except` of a `try` that catches a fault, for the proofs of a task's steps.
use Rattle.std.specs.Prelude.{ℕ, suc, Option, None, Some, if◌then◌else◌}
use Rattle.py_syntax.specs.StatementTrees.{Caught, view_caught}
use Rattle.py_syntax.specs.declared.fault_kind.FaultKind.{FaultKind}
use Rattle.test_meaning.specs.Body.BodyTrees.{Block, Handlers, NoHandler, Catch}
use Rattle.rig_model.specs.Task.Leaving.{catches}
use Rattle.task_core.specs.Code.Reading.{Reading}
use Rattle.task_core.specs.declared.code.first.FirstHandler.{FirstHandler}

-- what it catches, and its block
abbrev pub first_catching : FaultKind → Handlers → Option (Caught × Block)
first_catching kind NoHandler = None
first_catching kind (Catch c block hs) = if catches c kind then Some (c, block) else first_catching kind hs

abbrev pub handler_in : {C : Type 0} → (C → Reading) → Option (FirstHandler C) → Option (Caught × Block)
handler_in r None = None
handler_in r (Some h) = Some (view_caught h.caught.now, (r h.block).block)

-- how many there are
abbrev pub handler_count : Handlers → ℕ
handler_count NoHandler = 0
handler_count (Catch c block hs) = suc (handler_count hs)
