use Rattle.v_flat.proofs.ShapeLemmas.Short.{lists_short}
use Rattle.v_flat.proofs.shape.laws.lists_are_short.Goals as goal

pub returns : goal.returns
returns c = lists_short
