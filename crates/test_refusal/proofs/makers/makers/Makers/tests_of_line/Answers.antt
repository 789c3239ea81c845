-- The cases of the factory.
use Rattle.std.proofs.Common.{ℕ, List, ap, sym, ◌∙◌}
use Rattle.py_syntax.specs.BlockTrees.{LineAt}
use Rattle.py_syntax.specs.ModuleTrees.{view_module_line}
use Rattle.py_syntax.specs.declared.module.ModuleLine as code
use Rattle.test_meaning.specs.Factory.Product.{case_count}
use Rattle.test_meaning.specs.Rules.File.{choices, file_of}
use Rattle.test_meaning.specs.Rules.Rules.{tests_at}
use Rattle.test_refusal.specs.Makers.SoFar.{cut}
use Rattle.test_refusal.proofs.MakersLemmas.Tells.{count_of}
use Rattle.test_refusal.proofs.makers.makers.Makers.tests_of_line.Goals as goal

pub returns-in-GenerateTests : goal.returns-in-GenerateTests
returns-in-GenerateTests c = λ f xs l h.
    c.case_count.ensures ∙ count_of xs c.args.self.now h f c.bytes.result.now
    ∙ ap (λ (m : List ℕ). cut (case_count (choices f (file_of xs) m))) c.bytes.ensures
    ∙ ap (λ (z : code.ModuleLine). cut (tests_at f (file_of xs) (LineAt l (view_module_line z)))) (sym c.in-GenerateTests.is)
