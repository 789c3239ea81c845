use Rattle.std.proofs.Common.{◌≡◌, map, take}
use Rattle.std.specs.List.{flat_map}
use Rattle.std.specs.Prelude.{string_bytes}
use Rattle.runner_tests.specs.Runner.Commands.{word_in}
use Rattle.runner_tests.proofs.runner.commands.words_of.Given as goal

abbrev pub invariant-loop-part : goal.invariant-loop-part
invariant-loop-part l = map string_bytes l.words.items ≡ flat_map (λ part. word_in part.now) (take l.part-index l.part-items)
