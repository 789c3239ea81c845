use Rattle.std.proofs.Common.{◌≡◌, ◌+◌, drop}
use Rattle.std.specs.List.{position_or_len}
use Rattle.table_rows.specs.Rows.{is_byte}
use Rattle.table_rows.proofs.row.cut.Given as goal

abbrev pub invariant-loop-i : goal.invariant-loop-i
invariant-loop-i l = position_or_len (is_byte l.mark) l.line ≡ l.i + position_or_len (is_byte l.mark) (drop l.i l.line)
