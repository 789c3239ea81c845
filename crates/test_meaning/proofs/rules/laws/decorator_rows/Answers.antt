use Rattle.test_meaning.proofs.RulesLemmas.Rows.{decorator_rows}
use Rattle.test_meaning.proofs.rules.laws.decorator_rows.Goals as goal

pub returns : goal.returns
returns c = decorator_rows
