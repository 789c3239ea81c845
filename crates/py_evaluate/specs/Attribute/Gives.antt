-- A means of proof: what a function of the code returned is the answer of an operation, unless memory ran out, for the proofs of
-- evaluation.
use Rattle.std.specs.Prelude.{◌≡◌, ◌+◌, ◌≤◌, Result, Ok, Err}
use Rattle.py_evaluate.specs.declared.attribute.fault.OperationFault.{OperationFault}
use Rattle.py_evaluate.specs.declared.attribute.fault.OperationFault.TheVariants as faults
use Rattle.py_value.specs.Answer.{Answer}
use Rattle.py_value.specs.Limits.{signal_numbers}
use Rattle.py_value.specs.declared.value.Value.{Value}
use Rattle.py_value.specs.declared.value.Value.TheVariants.{Text, Words}

abbrev pub Fails : OperationFault → Answer Value → Type 0
Fails (faults.Raised kind) answer = answer ≡ Err kind
Fails faults.OutOfMemory answer = Unit {0}

abbrev pub Gives : Answer Value → Result Value OperationFault → Type 0
Gives answer (Ok v) = answer ≡ Ok v
Gives answer (Err fault) = Fails fault answer

-- what holds where memory ran out
abbrev pub OnWant : OperationFault → Type 0 → Type 0
OnWant (faults.Raised kind) P = Unit {0}
OnWant faults.OutOfMemory P = P

abbrev pub IfWant : {A : Type 0} → Result A OperationFault → Type 0 → Type 0
IfWant (Ok a) P = Unit {0}
IfWant (Err fault) P = OnWant fault P

-- an answer that takes memory: a text is made for it
abbrev pub MakesText : Answer Value → Type 0
MakesText (Ok (Text bytes)) = Unit {0}
MakesText _ = ⊥

-- the words of a memory have numbers of signals
abbrev pub HasNumbers : Value → Type 0
HasNumbers (Words first low count) = first.0 + count ≤ signal_numbers
HasNumbers _ = Unit {0}
