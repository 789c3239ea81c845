-- An item before those behind it, and a clause with its block.
use Rattle.std.proofs.Common.{rules, ◌≡◌, ℕ, ◌+◌, ◌-◌, ◌≤◌, List, length, drop, sym, ap, ◌∙◌, subst, arith}
use Rattle.std.proofs.lemmas.List.{drop_all}
use Rattle.py_syntax.specs.BlockTrees.{block_of, view_item}
use Rattle.py_syntax.specs.declared.tree.BlockItem.{BlockItem}
use Rattle.py_syntax.specs.declared.tree.BlockItem.TheViews.{the_lemmas}
use Rattle.test_functions.specs.Blocks.Kept.{tail_in}
use Rattle.test_meaning.specs.Bodies.{Tail, block_in, item_in}
use Rattle.test_meaning.specs.Body.Views as made
use Rattle.test_functions.proofs.BlocksLemmas.Tails.{row_block, block_more, clause_done}
use Rattle.test_functions.proofs.blocks.block.+blocks.Goals as goal

pub block-loop-at-init : goal.block-loop-at-init
block-loop-at-init g t c =
    let s = g.M.Meanings.inside c.args.meanings.now in
    let xs = c.args.items.now in
    subst (λ (ys : List BlockItem). tail_in c.behind-tail.result ≡ block_in s (block_of ys)) (sym (drop_all (length xs) xs (omega arith))) (search rules)

pub block-loop-at-preserved : goal.block-loop-at-preserved
block-loop-at-preserved g t c =
    let s = g.M.Meanings.inside c.args.meanings.now in
    let xs = c.args.items.now in
    let i = c.loop-at.at in
    let some : 1 ≤ i = search rules in
    let inside : i ≤ length xs = search rules in
    let next : i ≡ i - 1 + 1 = omega (arith, some) in
    c.in_ok-tail.ensures
    ∙ ap (λ (r : Tail). item_in s (view_item c.index-items-at.result) r) (c.loop-at.invariant ∙ ap (λ (k : ℕ). block_in s (block_of (drop k xs))) next)
    ∙ block_more s xs (i - 1) c.index-items-at.result (omega (arith, some, inside)) c.index-items-at.is

pub item-returns-in_ok-inner-in-Clause : goal.item-returns-in_ok-inner-in-Clause
item-returns-in_ok-inner-in-Clause g t c =
    clause_done c.clause.result (g.M.Meanings.inside c.args.meanings.now) _ _ _ _ (block_of c.deref.result.now) (made.block_of c.in_order.result.items)
    (tail_in c.args.rest) (ap (λ (i : BlockItem). view_item i) c.in-Clause.is) (search (rules, the_lemmas, row_block))
    (c.in_order.ensures ∙ ap (λ (r : Tail). r.items) c.in_ok-inner-in-Clause.ensures) c.clause.ensures
