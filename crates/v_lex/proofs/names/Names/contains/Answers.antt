use Rattle.v_lex.specs.Names.{has_name}
use Rattle.v_lex.proofs.names.Names.contains.Goals as goal

pub returns : goal.returns
unfolding has_name
returns c = c.contains.ensures
