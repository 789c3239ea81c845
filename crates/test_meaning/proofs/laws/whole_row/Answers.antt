use Rattle.test_meaning.proofs.WorkedRows.{whole_row}
use Rattle.test_meaning.proofs.laws.whole_row.Goals as goal

pub returns : goal.returns
returns c = whole_row
