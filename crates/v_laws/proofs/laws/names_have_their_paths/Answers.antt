use Rattle.v_laws.proofs.Names.{names_have_their_paths}
use Rattle.v_laws.proofs.laws.names_have_their_paths.Goals as goal

pub returns : goal.returns
returns c = names_have_their_paths
