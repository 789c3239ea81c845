-- The text of a clause is that of its header and of its block.
use Rattle.std.proofs.Common.{rules}
use Rattle.py_syntax.specs.declared.tree.BlockItem.TheViews.{the_lemmas}
use Rattle.python_tests.proofs.TreesLemmas.Rows.{row_of_items}
use Rattle.python_tests.proofs.trees.block.+blocks.Goals as goal

pub item_text-returns-in_ok-block-in-Clause : goal.item_text-returns-in_ok-block-in-Clause
item_text-returns-in_ok-block-in-Clause t c = rw c.in-Clause.is (search (rules, the_lemmas, row_of_items))
