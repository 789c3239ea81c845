-- Rows and lists of statements and of items.
use Rattle.std.proofs.Common.{◌≡◌, refl, ap}
use Rattle.v_syntax.specs.declared.statement.Statement.{Row_of-CaseItem, end_of-CaseItem, more_of-CaseItem, Row_of-Statement, end_of-Statement, more_of-Statement}
use Rattle.v_syntax.specs.declared.statement.CaseItem.TheBlock.{items-the_row-Statement, items-the_row-CaseItem}
use Rattle.v_syntax.specs.StatementTrees.{view, view_row, view_case, view_case_row, more_statements, more_cases}
use Rattle.v_process.specs.Lists.{statement_list, case_list}

pub row_statements : (n : _) (k : Row_of-Statement n) → view_row k ≡ statement_list (items-the_row-Statement n k)
row_statements n end_of-Statement = refl
row_statements n (more_of-Statement s rest) = ap (more_statements (view s)) (row_statements _ rest)

pub row_cases : (n : _) (k : Row_of-CaseItem n) → view_case_row k ≡ case_list (items-the_row-CaseItem n k)
row_cases n end_of-CaseItem = refl
row_cases n (more_of-CaseItem c rest) = ap (more_cases (view_case c)) (row_cases _ rest)
