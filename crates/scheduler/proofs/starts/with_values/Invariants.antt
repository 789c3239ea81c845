use Rattle.std.proofs.Common.{◌≡◌, drop}
use Rattle.rig_model.specs.Run.Case.{values_of}
use Rattle.scheduler.proofs.InOrder.{behind}
use Rattle.scheduler.proofs.starts.with_values.Given as goal

abbrev pub invariant-loop-at : goal.invariant-loop-at
invariant-loop-at l = behind l.values (values_of (drop l.at l.constants)) ≡ behind l.initial.values (values_of l.constants)
