use Rattle.std.proofs.Common.{◌≡◌, ◌++◌, length}
use Rattle.table_rows.specs.Rows.{written}
use Rattle.table_rows.proofs.row.text_of.Given as goal

abbrev pub invariant-loop-byte : goal.invariant-loop-byte
invariant-loop-byte l = l.text.items ++ written l.rest ≡ written l.part

abbrev pub decreases-loop-byte : goal.decreases-loop-byte
decreases-loop-byte l = length l.rest
