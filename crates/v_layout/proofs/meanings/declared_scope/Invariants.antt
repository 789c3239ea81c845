-- The names behind, and the number of the first of their signals.
use Rattle.std.proofs.Common.{◌≡◌, ◌+◌, drop}
use Rattle.v_flat.specs.Scope.Scope.{means}
use Rattle.v_flat.specs.Declarations.{signals_in}
use Rattle.v_flat.specs.Design.{entries}
use Rattle.v_layout.specs.Order.{lines_in}
use Rattle.v_layout.proofs.meanings.declared_scope.Given as goal

abbrev pub invariant-loop-at : goal.invariant-loop-at
invariant-loop-at l =
    (means l.scope ≡ means (entries l.next (lines_in (drop l.at l.lines))))
    × (l.next + signals_in (lines_in (drop l.at l.lines)) ≡ l.first + signals_in (lines_in l.lines))
