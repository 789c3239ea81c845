use Rattle.test_meaning.proofs.RulesLemmas.Rows.{duplicate_rows}
use Rattle.test_meaning.proofs.rules.laws.duplicate_rows.Goals as goal

pub returns : goal.returns
returns c = duplicate_rows
