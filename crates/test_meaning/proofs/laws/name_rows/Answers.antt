use Rattle.test_meaning.proofs.WorkedRows.{name_rows}
use Rattle.test_meaning.proofs.laws.name_rows.Goals as goal

pub returns : goal.returns
returns c = name_rows
