use Rattle.rig_model.proofs.PartsLemmas.Queues.{own_keys, stands}
use Rattle.rig_model.proofs.parts.laws.fitting_simulator_stands.Goals as goal

pub returns-clause-stands : goal.returns-clause-stands
returns-clause-stands c = λ setup room held q content d fits. stands setup room held q content fits d

pub returns-clause-own : goal.returns-clause-own
returns-clause-own c = own_keys
