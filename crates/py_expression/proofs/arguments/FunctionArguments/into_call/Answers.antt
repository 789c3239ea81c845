use Rattle.std.proofs.Common.{rules}
use Rattle.py_syntax.specs.declared.expression.Expression.TheViews.{the_lemmas}
use Rattle.py_expression.proofs.RowLaws.{row_trees}
use Rattle.py_expression.proofs.arguments.FunctionArguments.into_call.Goals as goal

pub returns : goal.returns
returns c = search (rules, the_lemmas, row_trees)
