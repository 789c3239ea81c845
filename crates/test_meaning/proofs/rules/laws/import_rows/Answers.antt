use Rattle.test_meaning.proofs.RulesLemmas.Rows.{import_rows}
use Rattle.test_meaning.proofs.rules.laws.import_rows.Goals as goal

pub returns : goal.returns
returns c = import_rows
