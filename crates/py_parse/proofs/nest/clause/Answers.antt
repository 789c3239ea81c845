use Rattle.std.proofs.Common.{rules}
use Rattle.py_syntax.specs.declared.tree.BlockItem.TheViews.{the_lemmas}
use Rattle.py_parse.proofs.RowLaws.{row_block}
use Rattle.py_parse.proofs.nest.clause.Goals as goal

pub returns : goal.returns
returns c = search (rules, the_lemmas, row_block)
