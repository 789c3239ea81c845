use Rattle.test_meaning.proofs.WorkedRows.{clock_row}
use Rattle.test_meaning.proofs.laws.clock_row.Goals as goal

pub returns : goal.returns
returns c = clock_row
