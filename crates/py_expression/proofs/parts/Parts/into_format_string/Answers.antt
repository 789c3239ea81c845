use Rattle.std.proofs.Common.{rules}
use Rattle.py_syntax.specs.declared.expression.Expression.TheViews.{the_lemmas}
use Rattle.py_expression.proofs.RowLaws.{row_parts}
use Rattle.py_expression.proofs.parts.Parts.into_format_string.Goals as goal

pub returns : goal.returns
returns c = search (rules, the_lemmas, row_parts)
