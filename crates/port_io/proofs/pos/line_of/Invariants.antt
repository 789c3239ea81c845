use Rattle.std.proofs.Common.{◌≡◌, ◌≤◌, ◌+◌}
use Rattle.port_io.specs.Pos.{line_number, column_number}
use Rattle.port_io.proofs.pos.line_of.Given as goal

-- the line and the column of the place that the loop has come to, and that the column fits its type
abbrev pub invariant-loop-byte : goal.invariant-loop-byte
invariant-loop-byte l = record {
  line : l.line ≡ line_number l.text l.byte-index;
  column : l.column ≡ column_number l.text l.byte-index;
  counted : l.column ≤ l.byte-index + 1;
}
