-- The labels of a case statement.
use Rattle.std.proofs.Common.{rules}
use Rattle.v_syntax.specs.declared.statement.CaseItem.TheViews.{the_lemmas}
use Rattle.v_loop.proofs.Rows.{row_cases}
use Rattle.v_loop.proofs.unrolled.Unrolled.count_statement.Goals as goal

pub returns-in_ok-count_expression-in-Case : goal.returns-in_ok-count_expression-in-Case
returns-in_ok-count_expression-in-Case c = search (rules, the_lemmas, row_cases)
