-- Rows and lists of expressions.
use Rattle.std.proofs.Common.{◌≡◌, refl, ap}
use Rattle.v_syntax.specs.declared.expression.Expression.{Row_of-Expression, end_of-Expression, more_of-Expression}
use Rattle.v_syntax.specs.declared.expression.Expression.TheBlock.{items-the_row-Expression}
use Rattle.v_syntax.specs.ExpressionTrees.{more, view, view_row, views}

pub row_views : (n : _) (k : Row_of-Expression n) → view_row k ≡ views (items-the_row-Expression n k)
row_views n end_of-Expression = refl
row_views n (more_of-Expression e rest) = ap (more (view e)) (row_views _ rest)
