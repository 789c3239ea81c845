-- The parts of braces.
use Rattle.std.proofs.Common.{rules}
use Rattle.v_syntax.specs.declared.expression.Expression.TheViews.{the_lemmas}
use Rattle.v_check.proofs.ConstantsLemmas.Rows.{row_views}
use Rattle.v_syntax.specs.ExpressionTrees.{view}
use Rattle.v_loop.specs.Unrolled.{most_unrolled, nodes}
use Rattle.v_loop.proofs.Counted.{none_counted, some_nodes}
use Rattle.v_loop.proofs.nodes.+counting.Goals as goal

pub count_expression-returns-in-Concatenation : goal.count_expression-returns-in-Concatenation
count_expression-returns-in-Concatenation t c = search (rules, the_lemmas, row_views)

pub count_expression-returns-in_ok-count_expression-in-Replication : goal.count_expression-returns-in_ok-count_expression-in-Replication
count_expression-returns-in_ok-count_expression-in-Replication t c = search (rules, the_lemmas, row_views)

pub count_expression-returns-in_err-count : goal.count_expression-returns-in_err-count
count_expression-returns-in_err-count t c =
    let h = none_counted most_unrolled c.args.unrolled.now c.count.new.self (nodes (view c.args.expression.now)) c.in_err-count.ensures.err (c.in_err-count.ensures.many) (some_nodes (view c.args.expression.now)) in
    search (rules, h)
