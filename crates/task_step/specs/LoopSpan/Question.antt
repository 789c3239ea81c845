-- A means of proof: what the question of a `for` finds, its next element, where there is one, and what is left then, for the proofs of a
-- task's loops.
use Rattle.std.specs.Prelude.{◌≡◌, ℕ, ◌+ℤ◌, List, [], ◌∷◌, Option, None, Some, Result, Ok, Err, if◌then◌else◌}
use Rattle.py_value.specs.Integer.Integer.{held}
use Rattle.py_value.specs.Answer.{Answer}
use Rattle.py_value.specs.declared.value.Value.{Value}
use Rattle.py_value.specs.Operator.Number.{whole}
use Rattle.py_evaluate.specs.declared.attribute.fault.OperationFault.{OperationFault}
use Rattle.py_evaluate.specs.declared.attribute.fault.OperationFault.TheVariants as faults
use Rattle.py_evaluate.specs.Eval.{constant_value}
use Rattle.test_meaning.specs.Body.BodyTrees.{Block}
use Rattle.rig_model.specs.Task.Frame.{Left, Numbers, Listed}
use Rattle.rig_model.specs.Task.Moves.{At, Move, go_on}
use Rattle.rig_model.specs.Task.Blocks.{is_before, each}
use Rattle.task_step.specs.LoopSpan.Span.{left_in}
use Rattle.task_step.specs.declared.loop_span.question.Element.{Element}

-- an element, or the fault of a number that no value can hold or of a long text, and what is left behind it
pub record Found : Type 0 where
  pub element : Answer Value
  pub left : Left

abbrev pub found : Left → Option Found
found (Numbers z stop step) = if is_before z stop step then Some (record { element = whole (held z); left = Numbers (z +ℤ step) stop step }) else None
found (Listed []) = None
found (Listed (c ∷ cs)) = Some (record { element = constant_value c; left = Listed cs })

-- how the `for` goes on with that
abbrev pub asked : List ℕ → Option Found → Block → At → Move
asked n None block a = go_on a
asked n (Some f) block a = each n f.element f.left block a

-- ---- what the code answers

-- an element and what is left behind it
abbrev pub FindsElement : Option Element → Option Found → Type 0
FindsElement None f = f ≡ None
FindsElement (Some e) f = f ≡ Some (record { element = Ok e.value; left = left_in e.left })

-- the fault of an element; after want of memory there is none
abbrev pub FindsFault : OperationFault → Option Found → Type 0
FindsFault (faults.Raised kind) f = (left : Left) × (f ≡ Some (record { element = Err kind; left = left }))
FindsFault faults.OutOfMemory f = Unit {0}

abbrev pub Finds : Result (Option Element) OperationFault → Option Found → Type 0
Finds (Ok e) f = FindsElement e f
Finds (Err fault) f = FindsFault fault f
