use Rattle.rig_model.proofs.TaskLemmas.Worked.{refused_release}
use Rattle.rig_model.proofs.task.laws.refused_release.Goals as goal

pub returns : goal.returns
returns c = refused_release
