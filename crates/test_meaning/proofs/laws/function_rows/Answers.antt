use Rattle.test_meaning.proofs.WorkedRows.{function_rows}
use Rattle.test_meaning.proofs.laws.function_rows.Goals as goal

pub returns : goal.returns
returns c = function_rows
