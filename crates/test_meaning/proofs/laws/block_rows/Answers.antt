use Rattle.test_meaning.proofs.WorkedRows.{block_rows}
use Rattle.test_meaning.proofs.laws.block_rows.Goals as goal

pub returns : goal.returns
returns c = block_rows
