-- Rows and lists of statements, of items and of targets, and the labels of an item.
use Rattle.std.proofs.Common.{◌≡◌, ◌+◌, List, [], ◌∷◌, map, refl, ap}
use Rattle.v_syntax.specs.declared.expression.Expression.{Expression}
use Rattle.v_syntax.specs.declared.statement.Statement.{Row_of-CaseItem, end_of-CaseItem, more_of-CaseItem, Row_of-Statement, end_of-Statement, more_of-Statement}
use Rattle.v_syntax.specs.declared.statement.CaseItem.TheBlock.{items-the_row-Statement, items-the_row-CaseItem}
use Rattle.v_syntax.specs.declared.expression.Target.{Row_of-Target, end_of-Target, more_of-Target}
use Rattle.v_syntax.specs.declared.expression.Target.TheBlock.{items-the_row-Target}
use Rattle.v_syntax.specs.ExpressionTrees.{more_targets, view as view_expression, view_target, view_target_row, view_targets, views}
use Rattle.v_syntax.specs.StatementTrees.{view, view_row, view_case, view_case_row, more_statements, more_cases, statement_trees, case_trees}
use Rattle.v_loop.specs.Unrolled.{all_nodes, label_nodes, nodes}

pub row_statements : (n : _) (k : Row_of-Statement n) → view_row k ≡ statement_trees (map view (items-the_row-Statement n k))
row_statements n end_of-Statement = refl
row_statements n (more_of-Statement s rest) = ap (more_statements (view s)) (row_statements _ rest)

pub row_cases : (n : _) (k : Row_of-CaseItem n) → view_case_row k ≡ case_trees (map view_case (items-the_row-CaseItem n k))
row_cases n end_of-CaseItem = refl
row_cases n (more_of-CaseItem c rest) = ap (more_cases (view_case c)) (row_cases _ rest)

pub row_targets : (n : _) (k : Row_of-Target n) → view_target_row k ≡ view_targets (items-the_row-Target n k)
row_targets n end_of-Target = refl
row_targets n (more_of-Target t rest) = ap (more_targets (view_target t)) (row_targets _ rest)

pub labels_are : (es : List Expression) → all_nodes (views es) ≡ label_nodes (map view_expression es)
labels_are [] = refl
labels_are (e ∷ es) = ap (λ n. nodes (view_expression e) + n) (labels_are es)
