use Rattle.std.proofs.Common.{true, ap, ◌∙◌}
use mathlib.Core.Path.{fun_ext}
use Rattle.v_lex.specs.Lexing.{with_name}
use Rattle.v_lex.specs.Names.{has_name}
use Rattle.v_lex.proofs.NameLaws.{has_name_after}
use Rattle.v_lex.proofs.names.Names.define.Goals as goal

pub returns : goal.returns
returns c =
    let old = c.args.self.now.names in
    let h = has_name_after c.in_ok-key.key.items old c.insert.new.self true c.in_ok-insert.ensures.updates in
    fun_ext (λ other. h other ∙ ap (λ name. with_name (has_name old) name true other) c.in_ok-key.ensures.items)
