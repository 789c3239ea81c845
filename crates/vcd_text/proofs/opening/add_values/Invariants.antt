-- The lines so far, and those of the numbers that are left.
use Rattle.std.proofs.Common.{◌≡◌, ◌++◌, drop, map}
use Rattle.vcd_text.specs.Text.{opening_line}
use Rattle.vcd_text.proofs.opening.add_values.Given as goal

abbrev pub invariant-loop-at : goal.invariant-loop-at
invariant-loop-at l = l.lines ++ map (opening_line l.signals) (drop l.at l.numbers) ≡ l.fn.lines ++ map (opening_line l.signals) l.numbers
