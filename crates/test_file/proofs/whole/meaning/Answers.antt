-- Its functions, and its tests.
use Rattle.std.proofs.Common.{List, ap, ◌∙◌}
use Rattle.test_meaning.specs.Body.BodyTrees as body
use Rattle.py_syntax.specs.BlockTrees.{view_module}
use Rattle.test_meaning.specs.Body.Views.{view_case}
use Rattle.test_meaning.specs.Library.{functions}
use Rattle.test_meaning.specs.Rules.File.{file_of}
use Rattle.std.specs.Prelude.{map}
use Rattle.test_file.proofs.whole.meaning.Goals as goal

pub returns : goal.returns
returns c =
    ap (λ (fs : List body.Function). record { functions = fs; cases = map view_case c.in_ok-cases.cases }) c.in_ok-functions.ensures
    ∙ ap (λ (cs : List body.Case). record { functions = functions (file_of (view_module c.args.file.now)); cases = cs }) c.in_ok-cases.ensures
