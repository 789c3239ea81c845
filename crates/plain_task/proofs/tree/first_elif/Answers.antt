use Rattle.std.proofs.Common.{rules}
use Rattle.test_meaning.specs.declared.body.item.Branch.TheViews.{the_lemmas}
use Rattle.task_compile.proofs.Rows.{row_items}
use Rattle.plain_task.proofs.tree.first_elif.Goals as goal

pub returns : goal.returns
returns c = search (rules, the_lemmas, row_items)
