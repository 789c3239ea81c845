use Rattle.std.proofs.Common.{refl}
use Rattle.test_meaning.proofs.body.laws.call_rows.Goals as goal

pub returns : goal.returns
returns c = refl
