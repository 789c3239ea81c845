-- The parts of braces.
use Rattle.std.proofs.Common.{rules}
use Rattle.v_syntax.specs.declared.expression.Target.TheViews.{the_lemmas}
use Rattle.v_loop.proofs.Rows.{row_targets}
use Rattle.v_syntax.specs.ExpressionTrees.{view_target}
use Rattle.v_loop.specs.Unrolled.{most_unrolled, target_nodes}
use Rattle.v_loop.proofs.Counted.{none_counted, some_target_nodes}
use Rattle.v_loop.proofs.nodes.+targets.Goals as goal

pub count_target-returns-in-Concatenation : goal.count_target-returns-in-Concatenation
count_target-returns-in-Concatenation t c = search (rules, the_lemmas, row_targets)

pub count_target-returns-in_err-count : goal.count_target-returns-in_err-count
count_target-returns-in_err-count t c =
    let h = none_counted most_unrolled c.args.unrolled.now c.count.new.self (target_nodes (view_target c.args.target.now)) c.in_err-count.ensures.err (c.in_err-count.ensures.many) (some_target_nodes (view_target c.args.target.now)) in
    search (rules, h)
