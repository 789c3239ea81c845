use Rattle.task_core.proofs.OpenCallLemmas.Naming.{Passed}
use Rattle.task_core.proofs.open_call.slots.Slots.place.Given as goal

abbrev pub invariant-loop-at : goal.invariant-loop-at
invariant-loop-at l = Passed l.self.slots.items l.at l.name
