use Rattle.std.proofs.Common.{◌≡◌, ◌++◌, drop}
use Rattle.std.specs.Prelude.{string_bytes}
use Rattle.table_rows.specs.Shown.{latin}
use Rattle.table_rows.proofs.shown.push_bytes.Given as goal

abbrev pub invariant-loop-byte : goal.invariant-loop-byte
invariant-loop-byte l = string_bytes l.out ++ latin (drop l.byte-index l.bytes) ≡ string_bytes l.initial.out ++ latin l.bytes
