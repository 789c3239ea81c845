use Rattle.trigger_table.specs.Records.{rows_in}
use Rattle.trigger_table.proofs.RingLemmas.{tidy}
use Rattle.trigger_table.proofs.KeptLemmas.{waiters_on_chain}
use Rattle.trigger_table.proofs.records.Records.first_of_cause.Goals as goal

pub returns-clause-value : goal.returns-clause-value
unfolding rows_in
returns-clause-value g c =
    rw (waiters_on_chain _ _ _ _ _ _ c.args.self.now.sound (tidy c.args.self.now.by_task) c.args.cause) c.front.ensures.value
