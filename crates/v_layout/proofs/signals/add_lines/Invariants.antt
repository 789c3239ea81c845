-- The signals of the names that are left.
use Rattle.std.proofs.Common.{drop}
use Rattle.v_layout.specs.Order.{lines_in}
use Rattle.v_layout.specs.Steps.{signals_below}
use Rattle.v_layout.proofs.Adding.{IsLeft}
use Rattle.v_layout.proofs.signals.add_lines.Given as goal

abbrev pub invariant-loop-line : goal.invariant-loop-line
invariant-loop-line l = IsLeft l.initial.signals (signals_below l.path (lines_in l.lines)) (signals_below l.path (lines_in (drop l.line-index l.lines))) l.signals
