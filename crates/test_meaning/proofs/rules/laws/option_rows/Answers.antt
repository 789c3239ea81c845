use Rattle.test_meaning.proofs.RulesLemmas.Rows.{option_rows}
use Rattle.test_meaning.proofs.rules.laws.option_rows.Goals as goal

pub returns : goal.returns
returns c = option_rows
