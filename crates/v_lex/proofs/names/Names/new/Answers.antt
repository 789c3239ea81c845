use mathlib.Core.Path.{fun_ext}
use Rattle.v_lex.proofs.NameLaws.{has_name_none}
use Rattle.v_lex.proofs.names.Names.new.Goals as goal

pub returns : goal.returns
returns c = fun_ext (has_name_none c.new.result c.new.ensures.empty)
