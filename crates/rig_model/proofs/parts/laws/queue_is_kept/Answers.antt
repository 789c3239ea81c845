use Rattle.std.proofs.Common.{refl}
use Rattle.rig_model.proofs.PartsLemmas.Queues.{made_of}
use Rattle.rig_model.proofs.parts.laws.queue_is_kept.Goals as goal

pub returns-clause-made : goal.returns-clause-made
returns-clause-made c = made_of

pub returns-clause-own : goal.returns-clause-own
returns-clause-own c = λ d. refl

pub returns-clause-keys : goal.returns-clause-keys
returns-clause-keys c = λ fired counts q sim d. refl
