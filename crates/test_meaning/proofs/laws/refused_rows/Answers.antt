use Rattle.test_meaning.proofs.WorkedRows.{refused_rows}
use Rattle.test_meaning.proofs.laws.refused_rows.Goals as goal

pub returns : goal.returns
returns c = refused_rows
