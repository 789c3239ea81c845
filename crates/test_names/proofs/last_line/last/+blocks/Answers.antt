-- The lines of an item, and those behind it.
use Rattle.std.proofs.Common.{rules, sym, ap, ◌∙◌}
use Rattle.py_syntax.specs.BlockTrees.{block_of, view_item}
use Rattle.py_syntax.specs.Modules.{item_lines}
use Rattle.py_syntax.specs.declared.tree.BlockItem.{BlockItem}
use Rattle.py_syntax.specs.declared.tree.BlockItem.TheViews.{the_lemmas}
use Rattle.test_names.specs.LastLine.Behind.{number_behind}
use Rattle.test_names.proofs.LastLineLemmas.Lines.{docstring_lines, statement_lines, clause_is, item_more, block_done, row_block}
use Rattle.test_names.proofs.last_line.last.+blocks.Goals as goal

pub of_item-returns-in-Docstring : goal.of_item-returns-in-Docstring
of_item-returns-in-Docstring t c = λ d.
    docstring_lines c.args.before.0 d _ ∙ ap (λ (i : BlockItem). number_behind c.args.before.0 (item_lines d (view_item i))) (sym c.in-Docstring.is)

pub of_item-returns-in-Statement : goal.of_item-returns-in-Statement
of_item-returns-in-Statement t c = λ d.
    statement_lines c.args.before.0 d _ _ ∙ ap (λ (i : BlockItem). number_behind c.args.before.0 (item_lines d (view_item i))) (sym c.in-Statement.is)

pub of_item-returns-in-Clause : goal.of_item-returns-in-Clause
of_item-returns-in-Clause t c = λ d.
    clause_is c.args.before.0 d _ _ _ _ _ (block_of c.deref.result.now) (ap (λ (i : BlockItem). view_item i) c.in-Clause.is) (search (rules, the_lemmas, row_block))
    c.of_block.ensures

pub of_block-loop-item-preserved : goal.of_block-loop-item-preserved
of_block-loop-item-preserved t c =
    item_more _ _ _ _ _ _ c.loop-item-test.true c.item-item.is c.of_item-last.ensures c.loop-item.invariant

pub of_block-returns : goal.of_block-returns
of_block-returns t c = block_done _ _ _ _ c.loop-item-test.false c.loop-item.invariant
