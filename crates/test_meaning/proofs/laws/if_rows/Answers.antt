use Rattle.test_meaning.proofs.WorkedRows.{if_rows}
use Rattle.test_meaning.proofs.laws.if_rows.Goals as goal

pub returns : goal.returns
returns c = if_rows
