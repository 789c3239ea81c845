use Rattle.std.proofs.Common.{◌≡◌, fold}
use Rattle.std.specs.Prelude.{string_bytes}
use Rattle.edge_tests.specs.Port.Calls.{first_of, told}
use Rattle.edge_tests.specs.Port.Files.{after_read, read_at, read_text, two_files}
use Rattle.edge_tests.proofs.port.files.store_text.Given as goal

-- the reads so far were made, and were told
abbrev pub invariant-loop-n : goal.invariant-loop-n
invariant-loop-n l =
    (l.store ≡ fold after_read two_files (first_of (read_at l.row) l.n))
    × (string_bytes l.out ≡ told read_text after_read two_files (first_of (read_at l.row) l.n))
