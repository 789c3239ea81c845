use Rattle.trigger_table.specs.Records.{rows_in}
use Rattle.trigger_table.proofs.KeptLemmas.{no_rows}
use Rattle.trigger_table.proofs.records.Records.new.Goals as goal

pub returns-clause-rows : goal.returns-clause-rows
unfolding rows_in
returns-clause-rows c = no_rows c.new-2.result.slab.slots c.new-4.result c.new-5.result c.new-6.result (c.new-6.ensures.lists 0)
