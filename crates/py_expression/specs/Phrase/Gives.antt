-- A means of proof: what a function of the code returned, seen by a view, is what reading gives, unless memory ran out, for the proofs of
-- Python's parser.
use Rattle.std.specs.Prelude.{◌≡◌, Option, Some, None, Result, Ok, Err}
use Rattle.py_expression.specs.declared.phrase.fault.ReadError.{ReadError}
use Rattle.py_expression.specs.declared.phrase.fault.ReadError.TheVariants as errors

abbrev pub Fails : {Y : Type 0} → ReadError → Option Y → Type 0
Fails errors.OutOfMemory read = Unit {0}
Fails errors.Wrong read = read ≡ None

abbrev pub Gives : {X Y : Type 0} → (X → Y) → Result X ReadError → Option Y → Type 0
Gives view (Ok x) read = read ≡ Some (view x)
Gives view (Err e) read = Fails e read
