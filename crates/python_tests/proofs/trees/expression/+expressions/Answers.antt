-- The text of a tree is that of its parts.
use Rattle.std.proofs.Common.{rules}
use Rattle.py_syntax.specs.declared.expression.Expression.TheViews.{the_lemmas}
use Rattle.python_tests.proofs.TreesLemmas.Rows.{row_of_texts, parts_of_texts}
use Rattle.python_tests.proofs.trees.expression.+expressions.Goals as goal

pub expression_text-returns-in_ok-parts-in-FormatString : goal.expression_text-returns-in_ok-parts-in-FormatString
expression_text-returns-in_ok-parts-in-FormatString t c = rw c.in-FormatString.is (search (rules, the_lemmas, parts_of_texts))

pub expression_text-returns-in_ok-arguments-in-Call : goal.expression_text-returns-in_ok-arguments-in-Call
expression_text-returns-in_ok-arguments-in-Call t c = rw c.in-Call.is (search (rules, the_lemmas, row_of_texts))
