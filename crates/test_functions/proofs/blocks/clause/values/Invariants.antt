-- The values so far.
use Rattle.std.proofs.Common.{◌≡◌, map, take}
use Rattle.test_meaning.specs.Rules.File.{value_in}
use Rattle.test_functions.proofs.blocks.clause.values.Given as goal

abbrev pub invariant-loop-constant : goal.invariant-loop-constant
invariant-loop-constant g l = l.values.items ≡ map (value_in (g.M.Meanings.inside l.meanings).file.constants) (take l.constant-index l.constants)
