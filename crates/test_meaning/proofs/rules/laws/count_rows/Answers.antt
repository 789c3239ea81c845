use Rattle.test_meaning.proofs.RulesLemmas.Rows.{count_rows}
use Rattle.test_meaning.proofs.rules.laws.count_rows.Goals as goal

pub returns : goal.returns
returns c = count_rows
