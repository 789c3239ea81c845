use Rattle.v_flat.proofs.ShapeLemmas.Paths.{paths_differ}
use Rattle.v_flat.proofs.shape.laws.paths_differ.Goals as goal

pub returns : goal.returns
returns c = paths_differ
