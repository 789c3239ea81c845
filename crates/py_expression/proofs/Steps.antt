-- One step of reading.
use Rattle.std.proofs.Common.{◌≡◌, ℕ, suc, ◌+◌, ◌*◌, List, length, Option, Some, None, sym, ◌∙◌}
use Rattle.py_syntax.specs.declared.token.Token.{Token}
use Rattle.py_expression.specs.declared.phrase.fault.ReadError.{ReadError}
use Rattle.py_expression.specs.declared.phrase.fault.ReadError.TheVariants as errors
use Rattle.py_expression.specs.Phrase.Gives.{Fails}
use Rattle.py_expression.specs.Shown.{Shown}
use Rattle.py_expression.specs.Frames.{Spot, going, done}
use Rattle.py_expression.specs.Reading.{step_of, run, read_of, start}

pub run_next : (limit k n : ℕ) (s t : Spot) → k ≡ suc n → step_of limit s ≡ Some (going t) → run limit k s ≡ run limit n t
unfolding run
run_next limit k n s t ek es = rw (ek, es)

pub run_done : (limit k n : ℕ) (s : Spot) (e : Shown) (ts : List Token) → k ≡ suc n → step_of limit s ≡ Some (done e ts) → run limit k s ≡ Some (e, ts)
unfolding run
run_done limit k n s e ts ek es = rw (ek, es)

pub run_stops : (limit k n : ℕ) (s : Spot) → k ≡ suc n → step_of limit s ≡ None → run limit k s ≡ None
unfolding run
run_stops limit k n s ek es = rw (ek, es)

pub run_out : (limit k : ℕ) (s : Spot) → k ≡ 0 → run limit k s ≡ None
unfolding run
run_out limit k s ek = rw ek

pub read_start : (limit least k : ℕ) (ts : List Token) (s : Spot) → k ≡ 2 * length ts + 1 → s ≡ start least ts → run limit k s ≡ read_of limit least ts
unfolding read_of
read_start limit least k ts s ek es = rw (ek, es)

pub run_fails : (limit k n : ℕ) (s : Spot) (e : ReadError) (a : Option (Shown × List Token)) → k ≡ suc n → run limit k s ≡ a → Fails e (step_of limit s) → Fails e a
run_fails limit k n s errors.OutOfMemory a ek ea h = tt
run_fails limit k n s errors.Wrong a ek ea h = sym ea ∙ run_stops limit k n s ek h
