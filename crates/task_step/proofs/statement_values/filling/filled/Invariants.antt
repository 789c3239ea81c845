use Rattle.std.specs.Prelude.{◌≡◌, drop, false}
use Rattle.rig_model.specs.Task.Statements.{filled}
use Rattle.task_step.specs.StatementValues.Filling.{with_rest}
use Rattle.task_step.proofs.statement_values.filling.filled.Given as goal

abbrev pub invariant-loop-byte : goal.invariant-loop-byte
invariant-loop-byte l = with_rest l.filling (drop l.byte-index l.text) ≡ filled false l.text l.texts
