-- The options so far.
use Rattle.std.proofs.Common.{◌≡◌, map, take}
use Rattle.test_meaning.specs.Factory.Options.{choices}
use Rattle.test_file.specs.List.SoFar.{choice_in}
use Rattle.test_file.proofs.list.options.options_of.Given as goal

abbrev pub invariant-loop-option : goal.invariant-loop-option
invariant-loop-option g l = choices l.made.items ≡ map (choice_in (g.V.Values.file l.values)) (take l.option-index l.options)
