use Rattle.v_flat.proofs.Rows.{all_rows}
use Rattle.v_flat.proofs.laws.worked_designs.Goals as goal

pub returns : goal.returns
returns c = all_rows
