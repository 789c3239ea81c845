-- The lines so far, and those of the names that are left.
use Rattle.std.proofs.Common.{◌≡◌, ◌++◌, drop}
use Rattle.vcd_text.specs.OpeningLines.{signal_lines}
use Rattle.vcd_text.proofs.opening.add_signals.Given as goal

abbrev pub invariant-loop-at : goal.invariant-loop-at
invariant-loop-at l = l.lines ++ signal_lines l.signals (drop l.at l.children) ≡ l.fn.lines ++ signal_lines l.signals l.children
