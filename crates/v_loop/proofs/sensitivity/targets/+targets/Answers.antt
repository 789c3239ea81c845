-- The parts of braces.
use Rattle.std.proofs.Common.{rules}
use Rattle.v_syntax.specs.declared.expression.Target.TheViews.{the_lemmas}
use Rattle.v_loop.proofs.Rows.{row_targets}
use Rattle.v_loop.proofs.sensitivity.targets.+targets.Goals as goal

pub add_target-returns-in-Concatenation : goal.add_target-returns-in-Concatenation
add_target-returns-in-Concatenation t c = search (rules, the_lemmas, row_targets)
