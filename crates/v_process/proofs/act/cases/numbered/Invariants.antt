-- Those that have numbers stand before those that are left.
use Rattle.std.proofs.Common.{length}
use Rattle.gpi.specs.Activation.{acts_of}
use Rattle.v_process.proofs.ActLemmas.CaseStatements.{Numbering}
use Rattle.v_process.proofs.act.cases.numbered.Given as goal

abbrev pub invariant-loop-item : goal.invariant-loop-item
invariant-loop-item l = Numbering l.width l.fn.items.items l.items.items l.labels (acts_of l.statements)

abbrev pub decreases-loop-item : goal.decreases-loop-item
decreases-loop-item l = length l.items.items
