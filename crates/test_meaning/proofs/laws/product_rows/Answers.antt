use Rattle.test_meaning.proofs.WorkedRows.{product_rows}
use Rattle.test_meaning.proofs.laws.product_rows.Goals as goal

pub returns : goal.returns
returns c = product_rows
