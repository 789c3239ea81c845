-- A means of proof: what a turn comes to that was an event of the simulator, for the proofs of the runner's turns.
use Rattle.std.specs.Prelude.{◌≡◌, Bool, true, false, Option, None, Some, Result, Ok, IsErr}
use Rattle.port_io.specs.declared.ports.NoMemory.{NoMemory}
use Rattle.port_io.specs.declared.ports.SinkFault.{SinkFault}
use Rattle.port_io.specs.declared.ports.SinkFault.TheVariants.{Failed, OutOfMemory}
use Rattle.py_syntax.specs.declared.fault_kind.FaultKind.TheVariants.{SimTimeoutError}
use Rattle.py_value.specs.Answer.{plain_fault}
use Rattle.rig_model.specs.declared.run.outcome.Outcome.TheVariants.{Raised}
use Rattle.scheduler.specs.declared.turned.Turn.{Turn}
use Rattle.scheduler.specs.declared.turned.Turn.TheVariants.{Went, Due, Over, WriteFault}

-- all lines were taken: the test's time is over, or the planned start has fired, or neither
abbrev pub event_turn : Bool → Bool → Turn
event_turn true is_due = Over (Raised (plain_fault SimTimeoutError))
event_turn false true = Due
event_turn false false = Went

-- by why a put failed, if one did
abbrev pub IsEventTurn : Option SinkFault → Bool → Bool → Result Turn NoMemory → Type 0
IsEventTurn None is_late is_due r = r ≡ Ok (event_turn is_late is_due)
IsEventTurn (Some Failed) is_late is_due r = r ≡ Ok WriteFault
IsEventTurn (Some OutOfMemory) is_late is_due r = IsErr r
