use Rattle.test_meaning.proofs.RulesLemmas.Rows.{place_rows}
use Rattle.test_meaning.proofs.rules.laws.place_rows.Goals as goal

pub returns : goal.returns
returns c = place_rows
