use Rattle.std.proofs.Common.{rules}
use Rattle.py_syntax.specs.declared.expression.Expression.TheViews.{the_lemmas}
use Rattle.test_functions.proofs.ExpressionsLemmas.MadeRows.{row_parts}
use Rattle.test_functions.proofs.expressions.made.format_string.Goals as goal

pub returns : goal.returns
returns c = search (rules, the_lemmas, row_parts)
