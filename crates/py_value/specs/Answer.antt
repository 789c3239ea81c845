-- What an operation answers (the language reference, 4.3): a value, or the kind of the fault that it raises.
use Rattle.std.specs.Prelude.{Result, Ok, Err, []}
use Rattle.py_syntax.specs.declared.fault_kind.FaultKind.{FaultKind}
use Rattle.py_value.specs.declared.value.Fault.{Fault}

abbrev pub Answer : Type 0 → Type 0
Answer A = Result A FaultKind

abbrev pub and_then : {A B : Type 0} → Answer A → (A → Answer B) → Answer B
and_then (Ok a) f = f a
and_then (Err kind) f = Err kind

abbrev pub answer_map : {A B : Type 0} → (A → B) → Answer A → Answer B
answer_map f (Ok a) = Ok (f a)
answer_map f (Err kind) = Err kind

-- a fault of an operation, which says nothing
abbrev pub plain_fault : FaultKind → Fault
plain_fault kind = record { kind = kind; text = [] }

-- the fault itself in place of its kind
abbrev pub raised : {A : Type 0} → Answer A → Result A Fault
raised (Ok a) = Ok a
raised (Err kind) = Err (plain_fault kind)
