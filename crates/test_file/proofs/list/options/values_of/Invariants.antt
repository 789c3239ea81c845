-- The values so far.
use Rattle.std.proofs.Common.{◌≡◌, map, take}
use Rattle.test_meaning.specs.Rules.File.{value_in}
use Rattle.test_file.proofs.list.options.values_of.Given as goal

abbrev pub invariant-loop-constant : goal.invariant-loop-constant
invariant-loop-constant g l = l.made.items ≡ map (value_in (g.V.Values.file l.values).constants) (take l.constant-index l.constants)
