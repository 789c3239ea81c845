-- The lines of an item of a module.
use Rattle.std.proofs.Common.{sym, ap, ◌∙◌, List}
use Rattle.py_syntax.specs.BlockTrees.{block_of, view_module_item}
use Rattle.py_syntax.specs.Modules.{block_lines, module_item_lines}
use Rattle.py_syntax.specs.declared.tree.BlockItem.{BlockItem}
use Rattle.py_syntax.specs.declared.tree.ModuleItem.{ModuleItem}
use Rattle.test_names.specs.LastLine.Behind.{number_behind}
use Rattle.test_names.proofs.LastLineLemmas.Lines.{text_lines, line_lines, function_lines}
use Rattle.test_names.proofs.last_line.last.of_module_item.Goals as goal

pub returns-in-Docstring : goal.returns-in-Docstring
returns-in-Docstring c =
    text_lines c.args.before.0 _ ∙ ap (λ (i : ModuleItem). number_behind c.args.before.0 (module_item_lines (view_module_item i))) (sym c.in-Docstring.is)

pub returns-in-Line : goal.returns-in-Line
returns-in-Line c =
    line_lines c.args.before.0 _ _ ∙ ap (λ (i : ModuleItem). number_behind c.args.before.0 (module_item_lines (view_module_item i))) (sym c.in-Line.is)

pub returns-in-Function : goal.returns-in-Function
returns-in-Function c =
    c.of_block.ensures 1 ∙ ap (λ (xs : List BlockItem). number_behind c.in-Function.number.0 (block_lines 1 (block_of xs))) c.deref.ensures.value
    ∙ function_lines c.args.before.0 _ _ _ _
    ∙ ap (λ (i : ModuleItem). number_behind c.args.before.0 (module_item_lines (view_module_item i))) (sym c.in-Function.is)
