-- The values so far.
use Rattle.std.proofs.Common.{◌≡◌, map, take}
use Rattle.test_meaning.specs.Factory.Options.{chosen}
use Rattle.test_meaning.specs.Cases.{argument}
use Rattle.test_file.proofs.cases.given.arguments.Given as goal

abbrev pub invariant-loop-parameter : goal.invariant-loop-parameter
invariant-loop-parameter g l = l.made ≡ map (argument (g.V.Values.file l.values) (map chosen l.case)) (take l.parameter-index l.parameters)
