-- What an event comes to isn't want of fuel.
use Rattle.std.proofs.Common.{◌≡◌, Bool, true, false, Option, None, Some, Result, Ok, Err}
use Rattle.port_io.specs.declared.ports.NoMemory.{NoMemory}
use Rattle.port_io.specs.declared.ports.SinkFault.{SinkFault}
use Rattle.port_io.specs.declared.ports.SinkFault.TheVariants.{Failed, OutOfMemory}
use Rattle.scheduler.specs.declared.turned.Turn.{Turn}
use Rattle.scheduler.specs.declared.turned.Turn.TheVariants.{Spent}
use Rattle.scheduler.specs.Events.{IsEventTurn, event_turn}

not_spent : (is_late is_due : Bool) → event_turn is_late is_due ≡ Spent → ⊥
not_spent true is_due h = cc
not_spent false true h = cc
not_spent false false h = cc

pub never_spent : (fault : Option SinkFault) (is_late is_due : Bool) (r : Result Turn NoMemory) → IsEventTurn fault is_late is_due r → r ≡ Ok Spent → ⊥
never_spent None is_late is_due r e h = let same : event_turn is_late is_due ≡ Spent = cc in not_spent is_late is_due same
never_spent (Some Failed) is_late is_due r e h = cc
never_spent (Some OutOfMemory) is_late is_due (Ok t) e h = cc
never_spent (Some OutOfMemory) is_late is_due (Err x) e h = cc
