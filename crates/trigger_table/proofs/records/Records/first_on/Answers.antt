use Rattle.std.proofs.Common.{sym, ◌∙◌}
use Rattle.trigger_table.specs.Records.{rows_in}
use Rattle.trigger_table.proofs.RingLemmas.{tidy}
use Rattle.trigger_table.proofs.KeptLemmas.{no_first_task, first_owner}
use Rattle.trigger_table.proofs.records.Records.first_on.Goals as goal

pub returns-in_err-waiter-clause-value : goal.returns-in_err-waiter-clause-value
unfolding rows_in
returns-in_err-waiter-clause-value g c =
    c.from_residual.ensures ∙ sym (no_first_task _ _ _ _ _ _ c.args.self.now.sound (tidy c.args.self.now.by_task) c.args.cause (sym c.in_err-waiter.ensures.value))

pub returns-clause-value : goal.returns-clause-value
unfolding rows_in
returns-clause-value g c =
    first_owner _ _ _ _ _ _ c.args.self.now.sound (tidy c.args.self.now.by_task) c.args.cause c.in_ok-waiter.waiter _ c.list_of.ensures (sym c.in_ok-waiter.ensures.value) c.in_ok-waiter.ensures.member
