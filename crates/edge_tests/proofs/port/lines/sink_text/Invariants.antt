use Rattle.std.proofs.Common.{◌≡◌, fold}
use Rattle.std.specs.Prelude.{string_bytes}
use Rattle.edge_tests.specs.Port.Calls.{first_of, told}
use Rattle.edge_tests.specs.Port.Lines.{after_put, line_at, put_word, third_fails}
use Rattle.edge_tests.proofs.port.lines.sink_text.Given as goal

-- the puts so far were made, and were told
abbrev pub invariant-loop-n : goal.invariant-loop-n
invariant-loop-n l =
    (l.sink ≡ fold after_put third_fails (first_of (line_at l.row) l.n))
    × (string_bytes l.out ≡ told put_word after_put third_fails (first_of (line_at l.row) l.n))
