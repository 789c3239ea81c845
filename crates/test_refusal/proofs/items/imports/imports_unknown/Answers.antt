-- A line at its number.
use Rattle.std.proofs.Common.{◌≡◌, ℕ, sym, ap, ◌∙◌}
use Rattle.std.proofs.lemmas.Result.{IfOk-weaker}
use Rattle.py_syntax.specs.BlockTrees.{LineAt, view_module_item}
use Rattle.py_syntax.specs.ModuleTrees.{view_module_line}
use Rattle.py_syntax.specs.declared.tree.ModuleItem.{ModuleItem}
use Rattle.test_meaning.specs.Rules.Rules.{is_unknown_import}
use Rattle.test_refusal.proofs.items.imports.imports_unknown.Goals as goal

pub returns-in-Line : goal.returns-in-Line
returns-in-Line c =
    IfOk-weaker c.line_imports_unknown.result (λ b. (l : ℕ) → b ≡ is_unknown_import (LineAt l (view_module_line c.in-Line.line)))
    (λ b. b ≡ is_unknown_import (view_module_item c.args.item.now))
    (λ b h. h c.in-Line.number.0 ∙ ap (λ (i : ModuleItem). is_unknown_import (view_module_item i)) (sym c.in-Line.is))
    c.line_imports_unknown.ensures
