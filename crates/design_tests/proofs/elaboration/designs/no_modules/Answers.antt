use Rattle.design_tests.proofs.elaboration.designs.no_modules.Goals as goal

pub returns-in_default : goal.returns-in_default
returns-in_default c = λ text none top. none c.in_default.not-OutOfMemory
