use Rattle.test_meaning.proofs.WorkedRows.{sound_rows}
use Rattle.test_meaning.proofs.laws.sound_rows.Goals as goal

pub returns : goal.returns
returns c = sound_rows
