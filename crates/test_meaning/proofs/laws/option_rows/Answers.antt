use Rattle.test_meaning.proofs.WorkedRows.{option_rows}
use Rattle.test_meaning.proofs.laws.option_rows.Goals as goal

pub returns : goal.returns
returns c = option_rows
