use Rattle.std.proofs.Common.{Result, option_copied, subst}
use Rattle.v_syntax.specs.declared.source.Source.{Source}
use Rattle.design_tests.specs.Elaboration.Designs.{AreModules}
use Rattle.design_tests.specs.declared.elaboration.designs.Refusal.{Refusal}
use Rattle.design_tests.proofs.elaboration.designs.of_tokens.Goals as goal

pub returns-in-Ok : goal.returns-in-Ok
returns-in-Ok c = λ text reads. c.flat_of.ensures text
    (subst (λ (found : Result Source Refusal). AreModules text found) c.in-Ok.is (c.in_ok-source.ensures text reads))

pub returns-in-Err : goal.returns-in-Err
returns-in-Err c = λ text reads.
    (subst (λ (found : Result Source Refusal). AreModules text found) c.in-Err.is (c.in_ok-source.ensures text reads)) (option_copied c.args.top)
