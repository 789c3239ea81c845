-- The parts of braces.
use Rattle.std.proofs.Common.{rules}
use Rattle.v_syntax.specs.declared.expression.Expression.TheViews.{the_lemmas}
use Rattle.v_check.proofs.ConstantsLemmas.Rows.{row_views}
use Rattle.v_check.proofs.constants.made.+made.Goals as goal

pub is_made-returns-in-Concatenation : goal.is_made-returns-in-Concatenation
is_made-returns-in-Concatenation t c = search (rules, the_lemmas, row_views)

pub is_made-returns-then-is_made-4 : goal.is_made-returns-then-is_made-4
is_made-returns-then-is_made-4 t c = search (rules, the_lemmas, row_views)
