use Rattle.std.proofs.Common.{length, arith, rules}
use Rattle.std.proofs.lemmas.List.{drop_all}
use Rattle.std.proofs.lemmas.Result.{IfOk-weaker}
use Rattle.test_meaning.specs.declared.body.item.Branch.TheViews.{the_lemmas}
use Rattle.test_meaning.specs.Body.Views.{view_item}
use Rattle.task_compile.proofs.Reading.{nothing_added, no_handler_added, elif_adds, handler_adds, if_adds, try_adds, block_adds}
use Rattle.task_compile.proofs.Rows.{row_items, row_branches, row_handlers}
use Rattle.task_compile.proofs.blocks.+blocks.Goals as goal

pub add_block-loop-at-init : goal.add_block-loop-at-init
add_block-loop-at-init t c = record {
  inside = omega arith;
  added = rw (drop_all (length c.args.block.now) c.args.block.now (omega arith)) (nothing_added c.args.states.now.items);
}

pub add_handlers-loop-at-init : goal.add_handlers-loop-at-init
add_handlers-loop-at-init t c = record {
  inside = omega arith;
  added = rw (drop_all (length c.args.handlers.now) c.args.handlers.now (omega arith)) (no_handler_added c.args.states.now.items);
}

pub add_elif-returns : goal.add_elif-returns
add_elif-returns t c =
    IfOk-weaker c.add.result _ _ (λ n h. elif_adds c.args.states.now.items c.add_block.new.states.items c.add.new.states.items c.in_ok-first.first c.args.second n _ _ _
    c.requires c.in_ok-first.ensures h (search (rules, the_lemmas, row_items))) c.add.ensures

pub add_handler-returns : goal.add_handler-returns
add_handler-returns t c =
    IfOk-weaker c.add.result _ _ (λ n h. handler_adds c.args.states.now.items c.add_block.new.states.items c.add.new.states.items c.in_ok-first.first c.args.next n _ _ _
    c.requires c.in_ok-first.ensures h (search (rules, the_lemmas, row_items))) c.add.ensures

pub add_item-returns-in_ok-second-in-If : goal.add_item-returns-in_ok-second-in-If
add_item-returns-in_ok-second-in-If t c =
    IfOk-weaker c.begin-in-If.result _ _ (λ n h. if_adds c.args.states.now.items c.add_block.new.states.items c.add_block-in-If.new.states.items c.add_elifs.new.states.items c.begin-in-If.new.states.items
    c.in_ok-first-in-If.first c.in_ok-last-in-If.last c.in_ok-second-in-If.second c.args.next n c.args.item.now (view_item c.args.item.now) _ _ _
    c.requires c.in_ok-first-in-If.ensures c.in_ok-last-in-If.ensures c.in_ok-second-in-If.ensures h (λ hs. search (rules, the_lemmas, row_items, row_branches))) c.begin-in-If.ensures

pub add_item-returns-in_ok-second-in-Try : goal.add_item-returns-in_ok-second-in-Try
add_item-returns-in_ok-second-in-Try t c =
    IfOk-weaker c.begin-in-Try.result _ _ (λ n h. try_adds c.args.states.now.items c.add_block-in-Try.new.states.items c.add_handlers.new.states.items c.begin-in-Try.new.states.items
    c.in_ok-first-in-Try.first c.in_ok-second-in-Try.second c.args.next n c.args.item.now (view_item c.args.item.now) _ _
    c.requires c.in_ok-first-in-Try.ensures c.in_ok-second-in-Try.ensures h (λ b. search (rules, the_lemmas, row_items, row_handlers))) c.begin-in-Try.ensures

pub add_item-returns-in_ok-first-in-While : goal.add_item-returns-in_ok-first-in-While
add_item-returns-in_ok-first-in-While t c =
    IfOk-weaker c.begin_block.result _ _ (λ n h. block_adds c.args.states.now.items c.add_block-in-While.new.states.items c.begin_block.new.states.items
    c.in_ok-first-in-While.first c.args.next n c.args.item.now (view_item c.args.item.now) _
    c.requires c.in_ok-first-in-While.ensures h (search (rules, the_lemmas, row_items))) c.begin_block.ensures

pub add_item-returns-in_ok-first-in-For : goal.add_item-returns-in_ok-first-in-For
add_item-returns-in_ok-first-in-For t c =
    IfOk-weaker c.begin_block-in-For.result _ _ (λ n h. block_adds c.args.states.now.items c.add_block-in-For.new.states.items c.begin_block-in-For.new.states.items
    c.in_ok-first-in-For.first c.args.next n c.args.item.now (view_item c.args.item.now) _
    c.requires c.in_ok-first-in-For.ensures h (search (rules, the_lemmas, row_items))) c.begin_block-in-For.ensures

pub add_item-returns-in_ok-first-in-With : goal.add_item-returns-in_ok-first-in-With
add_item-returns-in_ok-first-in-With t c =
    IfOk-weaker c.begin_block-in-With.result _ _ (λ n h. block_adds c.args.states.now.items c.add_block-in-With.new.states.items c.begin_block-in-With.new.states.items
    c.in_ok-first-in-With.first c.args.next n c.args.item.now (view_item c.args.item.now) _
    c.requires c.in_ok-first-in-With.ensures h (search (rules, the_lemmas, row_items))) c.begin_block-in-With.ensures
