use Rattle.test_meaning.proofs.RulesLemmas.Rows.{name_rows}
use Rattle.test_meaning.proofs.rules.laws.name_rows.Goals as goal

pub returns : goal.returns
returns c = name_rows
