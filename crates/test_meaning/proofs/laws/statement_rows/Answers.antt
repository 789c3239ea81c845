use Rattle.test_meaning.proofs.WorkedRows.{statement_rows}
use Rattle.test_meaning.proofs.laws.statement_rows.Goals as goal

pub returns : goal.returns
returns c = statement_rows
