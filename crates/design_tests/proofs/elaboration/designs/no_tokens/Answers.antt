use Rattle.design_tests.proofs.ElaborationLemmas.FoundLaws.{broken}
use Rattle.design_tests.proofs.elaboration.designs.no_tokens.Goals as goal

pub returns-in_default : goal.returns-in_default
returns-in_default c = λ text is top. broken c.args.fault text c.in_default.not-OutOfMemory is
