-- A line.
use Rattle.std.proofs.Common.{◌||◌, ◌∙◌, ap, sym}
use Rattle.py_syntax.specs.BlockTrees.{view_module_item}
use Rattle.py_syntax.specs.declared.tree.ModuleItem as code
use Rattle.test_meaning.specs.Rules.File.{is_decorator}
use Rattle.test_meaning.specs.Rules.Rules.{has_right_options}
use Rattle.test_names.specs.Scope.Around.{around_in, file_in}
use Rattle.test_refusal.proofs.makers.makers.Makers.has_right_options.Goals as goal

pub returns-in-Line : goal.returns-in-Line
returns-in-Line c = λ h.
    c.line_has_right_options.ensures c.in-Line.number.0 h
    ∙ ap (λ (i : code.ModuleItem). is_decorator (view_module_item i) || has_right_options (file_in c.args.scope.now) (around_in c.args.scope.now).above (view_module_item i)) (sym c.in-Line.is)
