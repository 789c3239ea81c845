-- The signals of the names that are left.
use Rattle.std.proofs.Common.{◌≡◌, ◌+◌, drop}
use Rattle.v_flat.specs.Declarations.{signals_in}
use Rattle.v_layout.specs.Order.{lines_in}
use Rattle.v_layout.proofs.numbers.end_of.Given as goal

abbrev pub invariant-loop-line : goal.invariant-loop-line
invariant-loop-line l = l.end + signals_in (lines_in (drop l.line-index l.lines)) ≡ l.first + signals_in (lines_in l.lines)
