-- The constants behind, and then what is declared.
use Rattle.std.proofs.Common.{◌≡◌, ◌++◌, drop}
use Rattle.v_flat.specs.Scope.Scope.{means}
use Rattle.v_flat.specs.Design.{entries}
use Rattle.v_header.specs.Parameter.Constants.{entries_of}
use Rattle.v_layout.specs.Order.{lines_in}
use Rattle.v_layout.proofs.meanings.scope.Given as goal

abbrev pub invariant-loop-at : goal.invariant-loop-at
invariant-loop-at l = means l.scope ≡ means (entries_of (drop l.at l.constants) ++ entries l.first (lines_in l.lines))
