-- Worked factories are computed.
use Rattle.std.proofs.Common.{refl}
use Rattle.test_meaning.specs.Factory.Rows.{Worked_rows}

pub worked_rows : Worked_rows
worked_rows = (refl, refl, refl, refl, refl, refl, refl, refl)
