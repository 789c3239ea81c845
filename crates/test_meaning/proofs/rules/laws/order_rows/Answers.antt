use Rattle.test_meaning.proofs.RulesLemmas.Rows.{order_rows}
use Rattle.test_meaning.proofs.rules.laws.order_rows.Goals as goal

pub returns : goal.returns
returns c = order_rows
