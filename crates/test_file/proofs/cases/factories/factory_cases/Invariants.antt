-- The cases so far.
use Rattle.std.proofs.Common.{◌≡◌, map, take}
use Rattle.test_meaning.specs.Body.Views.{view_case}
use Rattle.test_file.specs.Cases.Tested.{IsTested}
use Rattle.test_meaning.specs.Factory.Product.{product}
use Rattle.test_meaning.specs.Cases.{numbered}
use Rattle.test_meaning.specs.Rules.File.{Definition}
use Rattle.test_file.proofs.cases.factories.factory_cases.Given as goal

abbrev pub invariant-loop-number : goal.invariant-loop-number
invariant-loop-number g l = (d : Definition) → IsTested d l.function
    → map view_case l.cases.items ≡ numbered (g.V.Values.file l.values) d l.prefix l.postfix 1 (take l.number (product l.factory))
