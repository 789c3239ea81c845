use Rattle.test_meaning.proofs.WorkedRows.{call_rows}
use Rattle.test_meaning.proofs.laws.call_rows.Goals as goal

pub returns : goal.returns
returns c = call_rows
