use Rattle.rig_model.proofs.PartsLemmas.Steps.{short_stops}
use Rattle.rig_model.proofs.parts.laws.short_steps_end_the_run.Goals as goal

pub returns : goal.returns
returns c = λ from setup budget fuel run case cases lines left e. short_stops setup budget fuel run from case cases lines left e
