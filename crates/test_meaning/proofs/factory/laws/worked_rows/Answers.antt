use Rattle.test_meaning.proofs.FactoryLemmas.Rows.{worked_rows}
use Rattle.test_meaning.proofs.factory.laws.worked_rows.Goals as goal

pub returns : goal.returns
returns c = worked_rows
