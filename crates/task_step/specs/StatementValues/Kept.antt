-- A means of proof: what the code keeps of a write and of a draw, for the proofs of a task's statements.
use Rattle.rig_model.specs.Task.Values as values
use Rattle.task_step.specs.declared.statement_values.draws.Draw.{Draw}
use Rattle.task_step.specs.declared.statement_values.writes.SignalWrite.{SignalWrite}
use Rattle.task_step.specs.declared.statement_values.writes.Source.{Source}
use Rattle.task_step.specs.declared.statement_values.writes.Source.TheVariants as source

abbrev pub source_in : Source → values.Source
source_in (source.Value v) = values.Value' v
source_in (source.Force v) = values.Force' v
source_in source.Freeze = values.Freeze'
source_in source.Release = values.Release'

abbrev pub write_in : SignalWrite → values.Written
write_in w = record { sig = w.sig; act = w.act }

abbrev pub draw_in : Draw → values.Draw
draw_in d = record { low = d.low; span = d.span }
