use Rattle.std.proofs.Common.{rules}
use Rattle.v_syntax.specs.declared.expression.Expression.TheViews.{the_lemmas}
use Rattle.v_expression.proofs.Rows.{row_views}
use Rattle.v_expression.proofs.measured.replication.Goals as goal

pub returns-clause-tree : goal.returns-clause-tree
returns-clause-tree c = search (rules, the_lemmas, row_views)
