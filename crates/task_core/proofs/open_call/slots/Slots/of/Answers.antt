use Rattle.task_core.specs.OpenCall.Slots.{names_in}
use Rattle.task_core.proofs.OpenCallLemmas.Naming.{both_added}
use Rattle.task_core.proofs.open_call.slots.Slots.of.Goals as goal

pub returns : goal.returns
returns c =
    both_added (names_in c.none-slots.result) (names_in c.add.new.self) (names_in c.add-2.new.self) c.args.parameters.now c.args.others.now
    c.args.values.now _ _ c.none-slots.ensures c.in_ok-add.ensures c.in_ok-add-2.ensures
