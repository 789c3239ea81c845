use Rattle.test_meaning.proofs.RulesLemmas.Rows.{call_rows}
use Rattle.test_meaning.proofs.rules.laws.call_rows.Goals as goal

pub returns : goal.returns
returns c = call_rows
