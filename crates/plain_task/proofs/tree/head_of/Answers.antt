use Rattle.std.proofs.Common.{rules}
use Rattle.test_meaning.specs.declared.body.item.Branch.TheViews.{the_lemmas}
use Rattle.task_compile.proofs.Rows.{row_items, row_branches, row_handlers}
use Rattle.plain_task.proofs.tree.head_of.Goals as goal

pub returns-in-If : goal.returns-in-If
returns-in-If c = search (rules, the_lemmas, row_items, row_branches)

pub returns-in-Try : goal.returns-in-Try
returns-in-Try c = search (rules, the_lemmas, row_items, row_handlers)

pub returns-in-While : goal.returns-in-While
returns-in-While c = search (rules, the_lemmas, row_items)

pub returns-in-For : goal.returns-in-For
returns-in-For c = search (rules, the_lemmas, row_items)

pub returns-in-With : goal.returns-in-With
returns-in-With c = search (rules, the_lemmas, row_items)
