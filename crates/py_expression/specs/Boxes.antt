-- A means of proof: what a box holds, seen by a view, for the proofs of Python's parser.
use Rattle.std.specs.Prelude.{Box}

abbrev pub inside : {A B Z : Type 0} → (A → B) → Box A Z → B
inside see b = see b.value
