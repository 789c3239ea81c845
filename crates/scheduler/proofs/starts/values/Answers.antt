use Rattle.rig_model.specs.Run.Case.{values_of}
use Rattle.scheduler.proofs.InOrder.{answers_alone, known_alone}
use Rattle.scheduler.proofs.starts.values.Goals as goal

pub returns-clause-known : goal.returns-clause-known
returns-clause-known c =
    known_alone c.args.arguments.now c.with_values.result
    (answers_alone (values_of c.args.arguments.now) c.with_values.result (rw c.new.ensures at c.with_values.ensures))
