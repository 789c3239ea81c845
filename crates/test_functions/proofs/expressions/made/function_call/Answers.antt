use Rattle.std.proofs.Common.{rules}
use Rattle.py_syntax.specs.declared.expression.Expression.TheViews.{the_lemmas}
use Rattle.test_functions.proofs.ExpressionsLemmas.MadeRows.{row_trees}
use Rattle.test_functions.proofs.expressions.made.function_call.Goals as goal

pub returns : goal.returns
returns c = search (rules, the_lemmas, row_trees)
