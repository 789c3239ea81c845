use Rattle.std.proofs.Common.{◌≡◌, ◌++◌, ℕ, List, drop, map}
use Rattle.rig_model.specs.Task.Frame.{locals_of}
use Rattle.task_core.specs.OpenCall.Slots.{local_in}
use Rattle.task_core.proofs.open_call.slots.Slots.add.Given as goal

abbrev pub invariant-loop-at : goal.invariant-loop-at
invariant-loop-at l =
    (rest : List (List ℕ)) → map local_in l.self.slots.items ++ locals_of (drop l.at l.names ++ rest) (drop l.place l.values)
    ≡ map local_in l.fn.self.slots.items ++ locals_of (l.names ++ rest) (drop l.fn.place l.values)
