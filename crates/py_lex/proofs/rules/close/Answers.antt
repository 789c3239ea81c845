use Rattle.std.proofs.Common.{rules, nat_lt}
use Rattle.std.proofs.lemmas.Fn.{filter_same}
use Rattle.py_lex.proofs.rules.close.Goals as goal

pub returns : goal.returns
returns c = filter_same _ (λ b. nat_lt b c.args.indentation) _ (λ x b f h. search rules) _ _ c.retain.ensures.filtered
