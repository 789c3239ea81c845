use Rattle.std.proofs.Common.{rules}
use Rattle.v_syntax.specs.declared.expression.Target.TheViews.{the_lemmas}
use Rattle.v_expression.proofs.Rows.{row_targets}
use Rattle.v_expression.proofs.targets.joined.Goals as goal

pub returns : goal.returns
returns c = search (rules, the_lemmas, row_targets)
