use Rattle.test_meaning.proofs.RulesLemmas.Rows.{kept_rows}
use Rattle.test_meaning.proofs.rules.laws.kept_rows.Goals as goal

pub returns : goal.returns
returns c = kept_rows
