-- Rows and lists of expressions.
use Rattle.std.proofs.Common.{◌≡◌, List, [], ◌∷◌, ◌++◌, refl, ap}
use Rattle.v_syntax.specs.declared.expression.Expression as code
use Rattle.v_syntax.specs.declared.expression.Expression.{Row_of-Expression, end_of-Expression, more_of-Expression}
use Rattle.v_syntax.specs.declared.expression.Expression.TheBlock.{items-the_row-Expression}
use Rattle.v_syntax.specs.declared.expression.Target as code_target
use Rattle.v_syntax.specs.declared.expression.Target.{Row_of-Target, end_of-Target, more_of-Target}
use Rattle.v_syntax.specs.declared.expression.Target.TheBlock.{items-the_row-Target}
use Rattle.v_syntax.specs.ExpressionTrees.{more, view, view_row, views, more_targets, view_target, view_target_row, view_targets}
use Rattle.v_expression.specs.Lists.{and_last, and_last_target}

pub row_views : (n : _) (k : Row_of-Expression n) → view_row k ≡ views (items-the_row-Expression n k)
row_views n end_of-Expression = refl
row_views n (more_of-Expression e rest) = ap (more (view e)) (row_views _ rest)

pub views_push : (all : List code.Expression) (e : code.Expression) → views (all ++ (e ∷ [])) ≡ and_last (views all) (view e)
views_push [] e = refl
views_push (a ∷ all) e = ap (more (view a)) (views_push all e)

pub row_targets : (n : _) (k : Row_of-Target n) → view_target_row k ≡ view_targets (items-the_row-Target n k)
row_targets n end_of-Target = refl
row_targets n (more_of-Target t rest) = ap (more_targets (view_target t)) (row_targets _ rest)

pub targets_push : (all : List code_target.Target) (t : code_target.Target) → view_targets (all ++ (t ∷ [])) ≡ and_last_target (view_targets all) (view_target t)
targets_push [] t = refl
targets_push (a ∷ all) t = ap (more_targets (view_target a)) (targets_push all t)
