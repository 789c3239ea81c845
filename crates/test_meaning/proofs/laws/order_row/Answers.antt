use Rattle.test_meaning.proofs.WorkedRows.{order_row}
use Rattle.test_meaning.proofs.laws.order_row.Goals as goal

pub returns : goal.returns
returns c = order_row
