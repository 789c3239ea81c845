-- The children so far, and those that are left with their numbers.
use Rattle.std.proofs.Common.{◌≡◌, ◌+◌, ◌++◌, drop}
use Rattle.v_flat.specs.Declarations.{signals_in}
use Rattle.v_flat.specs.Design.{children}
use Rattle.v_layout.specs.Order.{lines_in}
use Rattle.v_layout.proofs.spots.children.Given as goal

abbrev pub invariant-loop-line : goal.invariant-loop-line
invariant-loop-line l =
    (children l.first (lines_in l.lines) ≡ l.found ++ children l.next (lines_in (drop l.line-index l.lines)))
    × (l.next + signals_in (lines_in (drop l.line-index l.lines)) ≡ l.first + signals_in (lines_in l.lines))
