use Rattle.std.proofs.Common.{◌∙◌}
use Rattle.task_core.proofs.OpenCallLemmas.Naming.{added_more}
use Rattle.task_core.proofs.open_call.slots.Slots.add.Goals as goal

pub loop-at-preserved : goal.loop-at-preserved
loop-at-preserved c = λ rest.
    added_more c.loop-at.self.slots.items c.push.new.self.items (record { name = c.get.result; value = c.in_ok-value.value }) c.args.names.now rest c.loop-at.at
    c.args.values.now c.loop-at.place c.next_value.new.place c.in_ok-push.ensures.items c.get.ensures c.in_ok-value.ensures.is c.in_ok-value.ensures.rest
    ∙ c.loop-at.invariant rest
