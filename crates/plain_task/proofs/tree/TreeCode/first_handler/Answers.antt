use Rattle.std.proofs.Common.{rules}
use Rattle.test_meaning.specs.declared.body.item.Branch.TheViews.{the_lemmas}
use Rattle.task_compile.proofs.Rows.{row_items}
use Rattle.plain_task.proofs.tree.TreeCode.first_handler.Goals as goal

pub returns-in_ok-caught-in-Handlers : goal.returns-in_ok-caught-in-Handlers
returns-in_ok-caught-in-Handlers c = search (rules, the_lemmas, row_items)
