-- Those that are added and those that are left are all labels.
use Rattle.std.proofs.Common.{length}
use Rattle.v_process.proofs.ActLemmas.CaseStatements.{Adding}
use Rattle.v_process.proofs.act.cases.add_labels.Given as goal

abbrev pub invariant-loop-form : goal.invariant-loop-form
invariant-loop-form l = Adding l.width l.item l.fn.forms.items l.forms.items l.fn.labels l.labels

abbrev pub decreases-loop-form : goal.decreases-loop-form
decreases-loop-form l = length l.forms.items
