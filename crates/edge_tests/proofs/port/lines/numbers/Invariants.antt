use Rattle.std.proofs.Common.{◌≡◌, map, take}
use Rattle.table_rows.specs.Rows.{decimal}
use Rattle.edge_tests.proofs.port.lines.numbers.Given as goal

abbrev pub invariant-loop-word : goal.invariant-loop-word
invariant-loop-word l = l.numbers ≡ map (λ word. decimal word.now) (take l.word-index l.words)
