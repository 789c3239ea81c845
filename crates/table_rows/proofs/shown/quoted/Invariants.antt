use Rattle.std.proofs.Common.{◌≡◌, ◌++◌, ◌∷◌, drop}
use Rattle.std.specs.Prelude.{string_bytes}
use Rattle.table_rows.specs.Shown.{shown_bytes}
use Rattle.table_rows.proofs.shown.quoted.Given as goal

abbrev pub invariant-loop-byte : goal.invariant-loop-byte
invariant-loop-byte l = string_bytes l.out ++ shown_bytes (drop l.byte-index l.bytes) ≡ 34 ∷ shown_bytes l.bytes
