-- One item more, and a header with its block.
use Rattle.std.proofs.Common.{rules, ap}
use Rattle.py_syntax.specs.BlockTrees.{block_of, view_item}
use Rattle.py_syntax.specs.declared.tree.BlockItem.{BlockItem}
use Rattle.py_syntax.specs.declared.tree.BlockItem.TheViews.{the_lemmas}
use Rattle.test_names.proofs.LocalsLemmas.Numbers.{item_more, all_items, clause_done, row_block}
use Rattle.test_names.proofs.locals.block.+blocks.Goals as goal

pub add_block-loop-item-preserved : goal.add_block-loop-item-preserved
add_block-loop-item-preserved t c = item_more _ _ _ _ _ _ c.loop-item-test.true c.item-item.is c.in_ok-names.ensures c.loop-item.invariant

pub add_block-returns : goal.add_block-returns
add_block-returns t c = all_items _ _ _ _ c.loop-item-test.false c.loop-item.invariant

pub add_item-returns-in_ok-names-in-Clause : goal.add_item-returns-in_ok-names-in-Clause
add_item-returns-in_ok-names-in-Clause t c =
    clause_done _ _ _ _ _ _ _ _ (block_of c.deref.result.now) (ap (λ (i : BlockItem). view_item i) c.in-Clause.is) c.named_by.ensures (search (rules, the_lemmas, row_block))
    c.in_ok-names-in-Clause.ensures c.add_block.ensures
