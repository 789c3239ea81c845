-- Arguments, one after the other.
use Rattle.std.proofs.Common.{◌≡◌, ℕ, suc, List, [], length, Option, Some, None, sym, ◌∙◌}
use Rattle.py_syntax.specs.StatementTrees.{Argument}
use Rattle.py_syntax.specs.declared.token.Token.{Token}
use Rattle.py_expression.specs.declared.phrase.fault.ReadError.{ReadError}
use Rattle.py_expression.specs.declared.phrase.fault.ReadError.TheVariants as errors
use Rattle.py_expression.specs.Phrase.Gives.{Fails}
use Rattle.py_statement.specs.Call.Reading.{going, done, step_of, more_of, some_arguments_of}

pub more_next : (limit k n : ℕ) (xs ys : List Argument × ℕ) (ts us : List Token) → k ≡ suc n → step_of limit xs ts ≡ Some (going ys us) → more_of limit k xs ts ≡ more_of limit n ys us
unfolding more_of
more_next limit k n xs ys ts us ek es = rw (ek, es)

pub more_done : (limit k n : ℕ) (xs ys : List Argument × ℕ) (ts us : List Token) → k ≡ suc n → step_of limit xs ts ≡ Some (done ys us) → more_of limit k xs ts ≡ Some (ys, us)
unfolding more_of
more_done limit k n xs ys ts us ek es = rw (ek, es)

pub more_stops : (limit k n : ℕ) (xs : List Argument × ℕ) (ts : List Token) → k ≡ suc n → step_of limit xs ts ≡ None → more_of limit k xs ts ≡ None
unfolding more_of
more_stops limit k n xs ts ek es = rw (ek, es)

pub more_out : (limit k : ℕ) (xs : List Argument × ℕ) (ts : List Token) → k ≡ 0 → more_of limit k xs ts ≡ None
unfolding more_of
more_out limit k xs ts ek = rw ek

pub more_start : (limit k : ℕ) (ts : List Token) (xs : List Argument × ℕ) → k ≡ length ts → xs ≡ ([], 0) → more_of limit k xs ts ≡ some_arguments_of limit ts
unfolding some_arguments_of
more_start limit k ts xs ek es = rw (ek, es)

pub more_fails : (limit k n : ℕ) (xs : List Argument × ℕ) (ts : List Token) (e : ReadError) (a : Option ((List Argument × ℕ) × List Token)) → k ≡ suc n
    → more_of limit k xs ts ≡ a → Fails e (step_of limit xs ts) → Fails e a
more_fails limit k n xs ts errors.OutOfMemory a ek ea h = tt
more_fails limit k n xs ts errors.Wrong a ek ea h = sym ea ∙ more_stops limit k n xs ts ek h
