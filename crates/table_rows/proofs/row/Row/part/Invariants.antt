use Rattle.std.proofs.Common.{◌≡◌}
use Rattle.table_rows.specs.Rows.{from_part}
use Rattle.table_rows.proofs.row.Row.part.Given as goal

abbrev pub invariant-loop : goal.invariant-loop
invariant-loop l = l.rest ≡ from_part l.counter l.initial.rest
