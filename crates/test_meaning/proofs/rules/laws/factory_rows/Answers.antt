use Rattle.test_meaning.proofs.RulesLemmas.Rows.{factory_rows}
use Rattle.test_meaning.proofs.rules.laws.factory_rows.Goals as goal

pub returns : goal.returns
returns c = factory_rows
