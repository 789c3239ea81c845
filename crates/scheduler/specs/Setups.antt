-- A means of proof: what all of a run shares, by who tells its changes, for the proofs of the runner's turns.
use Rattle.std.specs.Prelude.{List}
use Rattle.test_meaning.specs.Body.BodyTrees.{Function}
use Rattle.rig_model.specs.Run.Rig.{Setup}
use Rattle.scheduler.specs.declared.teller.Teller.{Teller}

-- the design and the choice of trace are the teller's; the functions of the tests file may be any
abbrev pub setup_of : List Function → Teller → Setup
setup_of functions t = record { functions = functions; flat = t.flat.now; trace = t.trace }
