-- The parts of braces.
use Rattle.std.proofs.Common.{rules}
use Rattle.v_syntax.specs.declared.expression.Expression.TheViews.{the_lemmas}
use Rattle.v_check.proofs.ConstantsLemmas.Rows.{row_views}
use Rattle.v_loop.proofs.reads.walk.+reading.Goals as goal

pub add-returns-in-Concatenation : goal.add-returns-in-Concatenation
add-returns-in-Concatenation t c = search (rules, the_lemmas, row_views)

pub add-returns-in-Replication : goal.add-returns-in-Replication
add-returns-in-Replication t c = search (rules, the_lemmas, row_views)
