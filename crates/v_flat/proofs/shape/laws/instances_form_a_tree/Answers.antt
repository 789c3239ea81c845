use Rattle.v_flat.proofs.ShapeLemmas.Trees.{trees}
use Rattle.v_flat.proofs.shape.laws.instances_form_a_tree.Goals as goal

pub returns : goal.returns
returns c = trees
