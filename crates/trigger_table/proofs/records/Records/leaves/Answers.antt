use Rattle.trigger_table.specs.Records.{rows_in}
use Rattle.trigger_table.proofs.RingLemmas.{tidy}
use Rattle.trigger_table.proofs.KeptLemmas.{some_is}
use Rattle.trigger_table.proofs.EntryLemmas.{kept_row, row_leaves}
use Rattle.trigger_table.proofs.records.Records.leaves.Goals as goal

pub leaves-requires : goal.leaves-requires
unfolding rows_in
leaves-requires c = some_is _ (kept_row _ _ _ _ _ _ c.args.self.now.sound (tidy c.args.self.now.by_task) (tidy c.args.self.now.order) c.args.number c.requires)

pub returns : goal.returns
unfolding rows_in
returns c = row_leaves _ _ _ _ _ _ c.args.self.now.sound (tidy c.args.self.now.by_task) (tidy c.args.self.now.order) c.args.number _ c.leaves.ensures c.requires
