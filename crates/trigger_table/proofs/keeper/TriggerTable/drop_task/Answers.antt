use Rattle.std.proofs.Common.{[], arith}
use Rattle.trigger_table.specs.Records.{causes_in, state_in}
use Rattle.trigger_table.proofs.BeginLemmas.{held_alike}
use Rattle.trigger_table.proofs.TableLemmas.{fits_records, rekeyed_names}
use Rattle.trigger_table.proofs.keeper.TriggerTable.drop_task.Goals as goal

pub drop_task-requires-clause-fits : goal.drop_task-requires-clause-fits
drop_task-requires-clause-fits g c = fits_records (g.K.Gpi.content c.args.kernel.now) (state_in c.args.self.now.records) c.args.self.now.kept c.requires.keys

pub drop_task-requires-clause-kept : goal.drop_task-requires-clause-kept
drop_task-requires-clause-kept g c = c.args.self.now.kept

pub invariant_of-self : goal.invariant_of-self
invariant_of-self g c = record { kept = c.drop_task.ensures.kept; few = omega (arith, c.drop_task.ensures.few, c.args.self.now.few) }

pub returns-clause-held : goal.returns-clause-held
returns-clause-held g c = held_alike (causes_in c.args.self.now.records) (causes_in c.drop_task.new.records) c.drop_task.ensures.held c.drop_task.ensures.shrinks

pub returns-clause-keys : goal.returns-clause-keys
returns-clause-keys g c =
    rekeyed_names (g.K.Gpi.content c.args.kernel.now) (g.K.Gpi.content c.drop_task.new.kernel) [] (state_in c.args.self.now.records) (state_in c.drop_task.new.records) c.args.self.now.kept c.drop_task.ensures.kept c.drop_task.ensures.keys.keys
