-- The tables of the nodes so far.
use Rattle.std.proofs.Common.{take}
use Rattle.run_view.specs.DesignNames.Tables.{AreTables}
use Rattle.run_view.proofs.design_names.design.tables_of.Given as goal

abbrev pub invariant-loop-at : goal.invariant-loop-at
invariant-loop-at l = AreTables l.tables.items (take l.at l.nodes)
