-- A means of proof: how a test has begun, for the proofs of the runner's turns.
use Rattle.std.specs.Prelude.{Option, None, Some}
use Rattle.py_syntax.specs.declared.fault_kind.FaultKind.{FaultKind}
use Rattle.py_value.specs.Answer.{plain_fault}
use Rattle.rig_model.specs.Run.Case.{refused}
use Rattle.rig_model.specs.Run.Rig.{Rig}
use Rattle.rig_model.specs.declared.run.outcome.Outcome.TheVariants.{Raised}
use Rattle.scheduler.specs.declared.turned.Turn.{Turn}
use Rattle.scheduler.specs.declared.turned.Turn.TheVariants.{Went, Over}

-- the fault of an argument or of the time, where there was one, has ended the test
abbrev pub faulted : Option FaultKind → Rig → Rig
faulted None c = c
faulted (Some kind) c = refused kind c

-- what the begin comes to
abbrev pub begun_turn : Option FaultKind → Turn
begun_turn None = Went
begun_turn (Some kind) = Over (Raised (plain_fault kind))
