use Rattle.std.proofs.Common.{false}
use mathlib.Core.Path.{fun_ext}
use Rattle.v_lex.proofs.NameLaws.{has_name_after}
use Rattle.v_lex.proofs.names.Names.undef.Goals as goal

pub returns : goal.returns
returns c = fun_ext (has_name_after c.args.name.now c.args.self.now.names c.remove.new.self false c.remove.ensures.updates)
