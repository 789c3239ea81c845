use Rattle.std.proofs.Common.{List, map, sym, ap, ◌∙◌}
use Rattle.task_core.specs.OpenCall.Slots.{local_in}
use Rattle.task_core.specs.declared.open_call.slots.Slot.{Slot}
use Rattle.task_core.proofs.OpenCallLemmas.Naming.{valued_set}
use Rattle.task_core.proofs.open_call.slots.Slots.set.Goals as goal

pub returns-in-Some : goal.returns-in-Some
returns-in-Some c =
    ap (λ (ss : List Slot). map local_in ss)
    (valued_set c.args.self.now.slots.items c.in-Some.at c.index_mut.result.now c.args.value c.in-Some.ensures.within c.index_mut.ensures.value)
    ∙ sym (c.in-Some.ensures.is c.args.value)
