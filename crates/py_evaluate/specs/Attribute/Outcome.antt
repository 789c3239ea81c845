-- What an evaluation gives (the language reference, 4.3 and 6): a value or the kind of a fault, and the number of the task's next trigger.
use Rattle.std.specs.Prelude.{◌≡◌, ◌≤◌, ℕ, Result, Ok, Err, IfOk}
use Rattle.py_syntax.specs.declared.fault_kind.FaultKind.{FaultKind}
use Rattle.py_value.specs.Answer.{Answer}
use Rattle.py_value.specs.declared.trigger.TaskNo.{TaskNo}
use Rattle.py_value.specs.declared.value.Value.{Value}
use Rattle.py_evaluate.specs.declared.attribute.fault.OperationFault.{OperationFault}
use Rattle.py_evaluate.specs.declared.attribute.fault.OperationFault.TheVariants as faults
use Rattle.py_evaluate.specs.Attribute.Look.{View, Names}
use Rattle.py_evaluate.specs.Attribute.Gives.{IfWant}
use Rattle.py_evaluate.specs.Attribute.Knows.{Knows}

pub record Outcome (A : Type 0) : Type 0 where
  pub answer : Answer A
  pub next : ℕ

abbrev pub gives : {A : Type 0} → A → ℕ → Outcome A
gives a k = record { answer = Ok a; next = k }

abbrev pub refuses : {A : Type 0} → FaultKind → ℕ → Outcome A
refuses kind k = record { answer = Err kind; next = k }

-- an answer, and the next number beside it
abbrev pub lift : {A : Type 0} → Answer A → ℕ → Outcome A
lift a k = record { answer = a; next = k }

abbrev pub after : {A B : Type 0} → Answer A → ℕ → (A → ℕ → Outcome B) → Outcome B
after (Ok a) k f = f a k
after (Err kind) k f = refuses kind k

-- the second is evaluated where the first gives a value
abbrev pub bind : {A B : Type 0} → Outcome A → (A → ℕ → Outcome B) → Outcome B
bind o f = after o.answer o.next f

-- where an expression is evaluated: by which task, with which names, and what it sees
pub record Scope : Type 0 where
  pub task : TaskNo
  pub names : Names
  pub view : View

-- ---- what a function of the code returned, beside the next number that it left

-- the fault of the outcome; after want of memory there is none
abbrev pub EndsByFault : {A : Type 0} → OperationFault → ℕ → Outcome A → Type 0
EndsByFault (faults.Raised kind) k o = o ≡ refuses kind k
EndsByFault faults.OutOfMemory k o = Unit {0}

-- what f reads off the value is that of the outcome, or the fault is
abbrev pub EndsAs : {A B : Type 0} → Result B OperationFault → (B → A) → ℕ → Outcome A → Type 0
EndsAs (Ok b) f k o = o ≡ gives (f b) k
EndsAs (Err fault) f k o = EndsByFault fault k o

-- the value, or the fault, is that of the outcome
abbrev pub Ends : {A : Type 0} → Result A OperationFault → ℕ → Outcome A → Type 0
Ends result k o = EndsAs result (λ a. a) k o

-- an outcome, whose value the view knows; the next number never falls; and memory runs out only as told
pub record Evaluates (view : View) (result : Result Value OperationFault) (old k : ℕ) (o : Outcome Value) (Wants : Type 0) : Type 0 where
  pub ends : Ends result k o
  pub known : IfOk result (Knows view)
  pub rises : old ≤ k
  pub want : IfWant result Wants
