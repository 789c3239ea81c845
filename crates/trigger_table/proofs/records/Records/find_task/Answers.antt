use Rattle.trigger_table.specs.Records.{rows_in}
use Rattle.trigger_table.proofs.RingLemmas.{tidy}
use Rattle.trigger_table.proofs.EntryLemmas.{found_row, found_entry, found_none}
use Rattle.trigger_table.proofs.records.Records.find_task.Goals as goal

pub returns-clause-some : goal.returns-clause-some
unfolding rows_in
returns-clause-some g c = found_entry _ _ _ _ _ _ c.args.self.now.sound (tidy c.args.self.now.by_task) (tidy c.args.self.now.order) c.args.task _ c.find.ensures.some

pub returns-clause-has : goal.returns-clause-has
unfolding rows_in
returns-clause-has g c = found_row _ _ _ _ _ _ c.args.self.now.sound (tidy c.args.self.now.by_task) (tidy c.args.self.now.order) c.args.task _ c.find.ensures.some

pub returns-clause-none : goal.returns-clause-none
unfolding rows_in
returns-clause-none g c = found_none _ _ _ _ _ _ c.args.self.now.sound (tidy c.args.self.now.by_task) (tidy c.args.self.now.order) c.args.task _ c.find.ensures.none
