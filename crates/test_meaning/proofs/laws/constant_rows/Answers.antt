use Rattle.test_meaning.proofs.WorkedRows.{constant_rows}
use Rattle.test_meaning.proofs.laws.constant_rows.Goals as goal

pub returns : goal.returns
returns c = constant_rows
