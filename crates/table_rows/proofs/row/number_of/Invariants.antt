use Rattle.std.proofs.Common.{◌≡◌, ◌≤◌, drop, fold, min}
use Rattle.table_rows.specs.Rows.{decimal, with_digit, largest}
use Rattle.table_rows.proofs.row.number_of.Given as goal

abbrev pub invariant-loop-byte : goal.invariant-loop-byte
invariant-loop-byte l = record {
  most : l.number ≤ largest;
  same : min (fold with_digit l.number (drop l.byte-index l.part)) largest ≡ decimal l.part;
}
