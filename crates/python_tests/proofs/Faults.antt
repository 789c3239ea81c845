-- The text of a rule shows the fault that the rule is broken.
use Rattle.std.proofs.Common.{◌≡◌, ℕ, List, Result, Err, IfOk, Vec, Global, subst}
use Rattle.std.proofs.lemmas.Result.{IfOk-weaker}
use Rattle.py_syntax.specs.declared.piece.Broken.{Broken}
use Rattle.py_lex.specs.Answer.{IsAnswered, fault_of}
use Rattle.py_lex.specs.declared.fault.LineFault.{LineFault}
use Rattle.python_tests.specs.Answers.{ShowsBroken, broken_text}

pub fault_shown : {E : Type 0} (b : Broken) (fault : LineFault) (r : Result (Vec ℕ Global) E) → fault ≡ fault_of b
    → IfOk r (λ text. text.items ≡ broken_text b)
    → IfOk r (λ text. (source : List ℕ) → IsAnswered source (Err fault) → ShowsBroken source text.items)
fault_shown b fault r is e =
    IfOk-weaker r (λ text. text.items ≡ broken_text b) (λ text. (source : List ℕ) → IsAnswered source (Err fault) → ShowsBroken source text.items)
    (λ text shows source answered. record { broken = b; is_broken = subst (λ (f : LineFault). IsAnswered source (Err f)) is answered; shows = shows }) e
