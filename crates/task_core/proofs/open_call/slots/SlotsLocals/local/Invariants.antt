use Rattle.std.proofs.Common.{◌≡◌, drop, map}
use Rattle.py_evaluate.specs.Attribute.Look.{local}
use Rattle.task_core.specs.OpenCall.Slots.{local_in}
use Rattle.task_core.proofs.open_call.slots.SlotsLocals.local.Given as goal

abbrev pub invariant-loop-slot : goal.invariant-loop-slot
invariant-loop-slot l = local (map local_in (drop l.slot-index l.slot-items)) l.name ≡ local (map local_in l.slot-items) l.name
