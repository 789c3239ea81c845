-- The factory, and its function.
use Rattle.std.proofs.Common.{Bor, Option, ap, sym, ◌∙◌}
use Rattle.std.specs.Prelude.{option_copied}
use Rattle.test_file.specs.declared.cases.factories.TestedFunction.{TestedFunction}
use Rattle.test_meaning.specs.Rules.File.{file_of}
use Rattle.test_meaning.specs.Rules.Names.{Name}
use Rattle.test_file.proofs.ListLemmas.Steps.{its_maker, no_maker}
use Rattle.test_file.proofs.list.above.Above.made_by.Goals as goal

pub returns-in_err-function : goal.returns-in_err-function
returns-in_err-function c = λ f xs is.
    no_maker (file_of xs) c.args.factory.now (option_copied c.from_residual.result)
    (is.factories c.args.factory.now ∙ ap (λ (v : Option (Bor Name)). option_copied v) (sym c.find.ensures)
    ∙ ap (λ (v : Option (Bor (Bor Name))). option_copied (option_copied v)) c.in_err-function.was)
    (ap (λ (v : Option (Bor TestedFunction)). option_copied v) c.from_residual.ensures)

pub returns : goal.returns
returns c = λ f xs is.
    its_maker xs c.args.self.now.functions c.args.factory.now c.in_ok-function.function.now.now (option_copied c.find-2.result) is.functions
    (is.factories c.args.factory.now ∙ ap (λ (v : Option (Bor Name)). option_copied v) (sym c.find.ensures)
    ∙ ap (λ (v : Option (Bor (Bor Name))). option_copied (option_copied v)) c.in_ok-function.was)
    c.find-2.ensures
