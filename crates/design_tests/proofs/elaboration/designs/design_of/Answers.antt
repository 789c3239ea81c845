use Rattle.std.proofs.Common.{Result, option_copied, subst}
use Rattle.v_lex.specs.Lexing.{Lexed}
use Rattle.design_tests.specs.Elaboration.Designs.{AreTokens}
use Rattle.design_tests.specs.declared.elaboration.designs.Refusal.{Refusal}
use Rattle.design_tests.proofs.elaboration.designs.design_of.Goals as goal

pub returns-in-Ok : goal.returns-in-Ok
returns-in-Ok c = c.of_tokens.ensures c.args.text.now
    (subst (λ (found : Result Lexed Refusal). AreTokens c.args.text.now found) c.in-Ok.is c.in_ok-tokens.ensures)

pub returns-in-Err : goal.returns-in-Err
returns-in-Err c =
    (subst (λ (found : Result Lexed Refusal). AreTokens c.args.text.now found) c.in-Err.is c.in_ok-tokens.ensures) (option_copied c.args.top)
