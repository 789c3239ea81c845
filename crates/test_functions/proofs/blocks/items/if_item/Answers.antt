use Rattle.std.proofs.Common.{rules}
use Rattle.test_meaning.specs.declared.body.item.Branch.TheViews.{the_lemmas}
use Rattle.test_functions.proofs.BlocksLemmas.Tails.{row_items, row_branches, row_handlers}
use Rattle.test_functions.proofs.blocks.items.if_item.Goals as goal

pub returns : goal.returns
returns c = search (rules, the_lemmas, row_items, row_branches, row_handlers)
