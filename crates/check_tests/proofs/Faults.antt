-- Texts of rules show the faults that the rules are broken.
use Rattle.std.proofs.Common.{◌≡◌, ℕ, List, Result, Ok, Err, IfOk, Vec, Global, ap, subst, sym, ◌∙◌}
use Rattle.std.proofs.lemmas.Result.{IfOk-weaker}
use Rattle.py_syntax.specs.BlockTrees.{ModuleItem}
use Rattle.py_syntax.specs.declared.piece.Broken.{Broken}
use Rattle.py_lex.specs.Answer.{IsAnswered, fault_of}
use Rattle.py_lex.specs.declared.fault.LineFault.{LineFault}
use Rattle.test_meaning.specs.Body.BodyTrees.{TestFile}
use Rattle.test_file.specs.Checks.{Checks}
use Rattle.test_file.specs.declared.fault.FileFault.{FileFault}
use Rattle.test_file.specs.declared.fault.FileFault.TheVariants.{Rule}
use Rattle.test_meaning.specs.Check.{check}
use Rattle.test_meaning.specs.declared.rules.rule.FileRule.{FileRule}
use Rattle.check_tests.specs.Answers.{ShowsBroken, at_line, broken_text, checked_text, file_rule_name}
use Rattle.check_tests.specs.Files.{file_text}

pub fault_shown : {E : Type 0} (b : Broken) (fault : LineFault) (r : Result (Vec ℕ Global) E) → fault ≡ fault_of b
    → IfOk r (λ text. text.items ≡ broken_text b)
    → IfOk r (λ text. (source : List ℕ) → IsAnswered source (Err fault) → ShowsBroken source text.items)
fault_shown b fault r is e =
    IfOk-weaker r (λ text. text.items ≡ broken_text b) (λ text. (source : List ℕ) → IsAnswered source (Err fault) → ShowsBroken source text.items)
    (λ text shows source answered. record { broken = b; is_broken = subst (λ (f : LineFault). IsAnswered source (Err f)) is answered; shows = shows }) e

-- a rule of a file that is told so
pub file_fault_shown : {E : Type 0} (rule : FileRule) (line : ℕ) (name : List ℕ) (fault : FileFault) (r : Result (Vec ℕ Global) E)
    → name ≡ file_rule_name rule → fault ≡ Rule rule line → IfOk r (λ text. text.items ≡ at_line name line)
    → IfOk r (λ text. (items : List ModuleItem) → Checks items (Err fault) → text.items ≡ checked_text (check items))
file_fault_shown rule line name fault r named is e =
    IfOk-weaker r (λ text. text.items ≡ at_line name line) (λ text. (items : List ModuleItem) → Checks items (Err fault) → text.items ≡ checked_text (check items))
    (λ text shows items answered. shows ∙ ap (λ (n : List ℕ). at_line n line) named
    ∙ sym (ap checked_text (subst (λ (f : FileFault). Checks items (Err f)) is answered))) e

-- an accepted file
pub accepted_shown : {E : Type 0} (items : List ModuleItem) (f : TestFile) (r : Result (Vec ℕ Global) E) → check items ≡ Ok f
    → IfOk r (λ text. text.items ≡ file_text f) → IfOk r (λ text. text.items ≡ checked_text (check items))
accepted_shown items f r is e =
    IfOk-weaker r (λ text. text.items ≡ file_text f) (λ text. text.items ≡ checked_text (check items))
    (λ text shows. shows ∙ sym (ap checked_text is)) e

-- a file that is refused so
pub refused_shown : {E : Type 0} (items : List ModuleItem) (fault : FileFault) (r : Result (Vec ℕ Global) E) → Checks items (Err fault)
    → IfOk r (λ text. (items : List ModuleItem) → Checks items (Err fault) → text.items ≡ checked_text (check items))
    → IfOk r (λ text. text.items ≡ checked_text (check items))
refused_shown items fault r is e =
    IfOk-weaker r (λ text. (xs : List ModuleItem) → Checks xs (Err fault) → text.items ≡ checked_text (check xs)) (λ text. text.items ≡ checked_text (check items))
    (λ text shows. shows items is) e
