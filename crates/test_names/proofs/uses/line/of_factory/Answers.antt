-- Two uses.
use Rattle.test_names.proofs.UsesLemmas.Answers.{first_and}
use Rattle.test_names.proofs.uses.line.of_factory.Goals as goal

pub returns : goal.returns
returns g c = first_and _ _ _ _ _ _ _ c.first_of.ensures c.needs.ensures c.makes.ensures
