-- Calls of functions by number.
use Rattle.std.proofs.Common.{◌≡◌, ℕ, List, Option, Some, Result, IfOk, sym, ap, ◌∙◌}
use Rattle.std.proofs.lemmas.Result.{IfOk-weaker}
use Rattle.py_syntax.specs.StatementTrees.{Argument}
use Rattle.py_syntax.specs.declared.module.Parameter.{Parameter}
use Rattle.test_meaning.specs.Body.BodyTrees.{FunctionCall}
use Rattle.test_meaning.specs.Body.Views.{view_call}
use Rattle.test_meaning.specs.declared.body.call.Call as made
use Rattle.test_meaning.specs.Bodies.{Inside, called, operands_in}
use Rattle.test_meaning.specs.Rules.File.{Definition}

-- the function of a definition is called
pub called_is : (s : Inside) (xs : List Argument) (o : Option Definition) (d : Definition) (k : ℕ) (ps : List Parameter)
    → o ≡ Some d → d.number ≡ k → d.parameters ≡ ps → FunctionCall k (operands_in s ps xs) ≡ called s xs o
called_is s xs o d k ps is n p =
    ap (λ (j : ℕ). FunctionCall j (operands_in s ps xs)) (sym n) ∙ ap (λ (qs : List Parameter). FunctionCall d.number (operands_in s qs xs)) (sym p)
    ∙ ap (λ (q : Option Definition). called s xs q) (sym is)

pub call_is : {E : Type 0} (r : Result made.Call E) (s : Inside) (xs : List Argument) (o : Option Definition) (d : Definition) (k : ℕ) (ps : List Parameter)
    → o ≡ Some d → d.number ≡ k → d.parameters ≡ ps → IfOk r (λ c. view_call c ≡ FunctionCall k (operands_in s ps xs)) → IfOk r (λ c. view_call c ≡ called s xs o)
call_is r s xs o d k ps is n p h =
    IfOk-weaker r (λ c. view_call c ≡ FunctionCall k (operands_in s ps xs)) (λ c. view_call c ≡ called s xs o)
    (λ c e. e ∙ called_is s xs o d k ps is n p) h
