use Rattle.test_meaning.proofs.RulesLemmas.Rows.{loop_rows}
use Rattle.test_meaning.proofs.rules.laws.loop_rows.Goals as goal

pub returns : goal.returns
returns c = loop_rows
