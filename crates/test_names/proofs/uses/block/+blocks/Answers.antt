-- The lines of an item, and those behind it.
use Rattle.std.proofs.Common.{rules, ◌≡◌, Option, sym, ap, subst, IfOk}
use Rattle.py_syntax.specs.BlockTrees.{view_item}
use Rattle.py_syntax.specs.declared.tree.BlockItem.{BlockItem}
use Rattle.py_syntax.specs.declared.tree.BlockItem.TheViews.{the_lemmas}
use Rattle.test_meaning.specs.Rules.Rules.{first_broken}
use Rattle.test_meaning.specs.Rules.Uses.{item_lines}
use Rattle.test_meaning.specs.declared.rules.rule.Refusal.{Refusal}
use Rattle.test_names.proofs.UsesLemmas.Blocks.{line_alone, line_first, line_before, item_first, stopped, went_on, row_block}
use Rattle.test_names.proofs.uses.block.+blocks.Goals as goal

pub of_block-returns-then-is_some : goal.of_block-returns-then-is_some
of_block-returns-then-is_some g t c =
    stopped _ _ _ _ _ _ c.in_ok-found.ensures c.is_some.ensures c.if-is_some.true c.loop-item.invariant
    (item_first (g.S.Scope.file c.args.scope.now) (g.S.Scope.around c.args.scope.now) c.args.looped _ _ _ c.loop-item-test.true c.item-item.is)

pub of_block-loop-item-preserved : goal.of_block-loop-item-preserved
of_block-loop-item-preserved g t c =
    went_on _ _ _ _ _ _ c.in_ok-found.ensures c.is_some.ensures c.if-is_some.false c.loop-item.invariant
    (item_first (g.S.Scope.file c.args.scope.now) (g.S.Scope.around c.args.scope.now) c.args.looped _ _ _ c.loop-item-test.true c.item-item.is)

pub of_item-returns-in_ok-rule-in-Statement : goal.of_item-returns-in_ok-rule-in-Statement
of_item-returns-in_ok-rule-in-Statement g t c =
    let f = g.S.Scope.file c.args.scope.now in
    let a = g.S.Scope.around c.args.scope.now in
    subst (λ (i : BlockItem). c.refused_at.result ≡ first_broken f (item_lines a c.args.looped (view_item i))) (sym c.in-Statement.is)
    (line_alone f _ a _ _ _ c.refused_at.ensures c.in_ok-rule-in-Statement.ensures)

pub of_item-returns-in-Some : goal.of_item-returns-in-Some
of_item-returns-in-Some g t c =
    let f = g.S.Scope.file c.args.scope.now in
    let a = g.S.Scope.around c.args.scope.now in
    line_first f _ a _ _ _ _ _ _ (ap (λ (i : BlockItem). item_lines a c.args.looped (view_item i)) c.in-Clause.is)
    c.refused_at-in-Clause.ensures c.of_header.ensures c.in-Some.is

pub of_item-returns-in-None : goal.of_item-returns-in-None
of_item-returns-in-None g t c =
    let f = g.S.Scope.file c.args.scope.now in
    let a = g.S.Scope.around c.args.scope.now in
    subst (λ (r : Option Refusal). IfOk c.of_block.result (λ refusal. refusal ≡ r))
    (line_before f _ a _ _ _ _ _ (ap (λ (i : BlockItem). item_lines a c.args.looped (view_item i)) c.in-Clause.is)
    c.refused_at-in-Clause.ensures c.of_header.ensures c.in-None.is)
    (search (rules, the_lemmas, row_block))
