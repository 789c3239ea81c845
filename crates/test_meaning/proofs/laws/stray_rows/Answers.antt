use Rattle.test_meaning.proofs.WorkedRows.{stray_rows}
use Rattle.test_meaning.proofs.laws.stray_rows.Goals as goal

pub returns : goal.returns
returns c = stray_rows
