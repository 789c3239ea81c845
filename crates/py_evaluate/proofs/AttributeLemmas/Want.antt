-- What is known of want of memory, from one result to another.
use Rattle.std.proofs.Common.{Ok, Err}
use Rattle.std.specs.Prelude.{Result}
use Rattle.py_evaluate.specs.declared.attribute.fault.OperationFault.{OperationFault}
use Rattle.py_evaluate.specs.declared.attribute.fault.OperationFault.TheVariants as faults
use Rattle.py_evaluate.specs.Attribute.Gives.{IfWant, OnWant}

-- what holds in any case
pub wants : {A : Type 0} (result : Result A OperationFault) (P : Type 0) → P → IfWant result P
wants (Ok a) P h = tt
wants (Err (faults.Raised kind)) P h = tt
wants (Err faults.OutOfMemory) P h = h

pub want_map : {A : Type 0} (result : Result A OperationFault) (P Q : Type 0) → (P → Q) → IfWant result P → IfWant result Q
want_map (Ok a) P Q f w = tt
want_map (Err (faults.Raised kind)) P Q f w = tt
want_map (Err faults.OutOfMemory) P Q f w = f w

-- a fault that is handed on as that of another result
pub want_on : (fault : OperationFault) (P Q : Type 0) → (P → Q) → OnWant fault P → OnWant fault Q
want_on (faults.Raised kind) P Q f w = tt
want_on faults.OutOfMemory P Q f w = f w
