use Rattle.trigger_table.specs.Records.{rows_in}
use Rattle.trigger_table.proofs.RingLemmas.{tidy}
use Rattle.trigger_table.proofs.KeptLemmas.{some_is}
use Rattle.trigger_table.proofs.EntryLemmas.{kept_row, told_answer, told_sound, told_rows}
use Rattle.await_tree.specs.Fire as fire
use Rattle.trigger_table.proofs.records.Records.grant.Goals as goal

pub grant-requires : goal.grant-requires
unfolding rows_in
grant-requires g c = some_is _ (kept_row _ _ _ _ _ _ c.args.self.now.sound (tidy c.args.self.now.by_task) (tidy c.args.self.now.order) c.args.number c.requires)

pub invariant_of-self : goal.invariant_of-self
unfolding rows_in
invariant_of-self g c = record {
  sound = told_sound _ _ _ _ _ _ c.args.self.now.sound (tidy c.args.self.now.by_task) (tidy c.args.self.now.order) _ c.args.number (fire.grant c.args.lock) _ c.grant.ensures c.requires;
}

pub returns-clause-answer : goal.returns-clause-answer
unfolding rows_in
returns-clause-answer g c = told_answer _ _ _ _ _ _ c.args.self.now.sound (tidy c.args.self.now.by_task) (tidy c.args.self.now.order) _ c.args.number (fire.grant c.args.lock) _ c.grant.ensures

pub returns-clause-rows : goal.returns-clause-rows
unfolding rows_in
returns-clause-rows g c = told_rows _ _ _ _ _ _ c.args.self.now.sound (tidy c.args.self.now.by_task) (tidy c.args.self.now.order) _ c.args.number (fire.grant c.args.lock) _ c.grant.ensures c.requires
