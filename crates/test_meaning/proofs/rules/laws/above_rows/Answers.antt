use Rattle.test_meaning.proofs.RulesLemmas.Rows.{above_rows}
use Rattle.test_meaning.proofs.rules.laws.above_rows.Goals as goal

pub returns : goal.returns
returns c = above_rows
