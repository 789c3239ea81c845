-- A means of proof: readings that may fail, put together, for the proofs of Python's parser.
use Rattle.std.specs.Prelude.{List, Option, Some, None}
use Rattle.py_syntax.specs.declared.token.Token.{Token}
use Rattle.py_expression.specs.Phrase.Marks.{end_of, after_last}

-- the one, and then the other
abbrev pub also : {A B : Type 0} → Option A → (A → Option B) → Option B
also None more = None
also (Some x) more = more x

-- the other where the one fails
abbrev pub or_else : {A : Type 0} → Option A → Option A → Option A
or_else (Some x) other = Some x
or_else None other = other

-- made of what is read
abbrev pub made : {A B : Type 0} → (A → B) → Option A → Option B
made make None = None
made make (Some x) = Some (make x)

abbrev pub ended : {A : Type 0} → A → List Token → Option A
ended x ts = made (λ _. x) (end_of ts)

-- `)` alone follows, before which a comma may stand
abbrev pub close_of : List Token → Option (Unit {0})
close_of ts = also (after_last ts) end_of

abbrev pub closed : {A : Type 0} → A → List Token → Option A
closed x ts = made (λ _. x) (close_of ts)
