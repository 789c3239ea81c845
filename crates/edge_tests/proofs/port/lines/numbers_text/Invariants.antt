use Rattle.std.proofs.Common.{◌≡◌, ◌++◌, drop}
use Rattle.std.specs.Prelude.{string_bytes}
use Rattle.std.specs.List.{flat_map}
use Rattle.edge_tests.specs.Port.Lines.{number_text, numbers_text}
use Rattle.edge_tests.proofs.port.lines.numbers_text.Given as goal

-- what is written, and the numbers that are left
abbrev pub invariant-loop-at : goal.invariant-loop-at
invariant-loop-at l = string_bytes l.out ++ flat_map number_text (drop l.at l.numbers) ≡ numbers_text l.numbers
