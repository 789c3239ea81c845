use Rattle.std.proofs.Common.{[], arith}
use Rattle.trigger_table.specs.Records.{causes_in, state_in}
use Rattle.trigger_table.proofs.BeginLemmas.{held_alike}
use Rattle.trigger_table.proofs.TableLemmas.{fits_records, rekeyed_names}
use Rattle.trigger_table.proofs.keeper.TriggerTable.clear.Goals as goal

pub clear-requires-clause-fits : goal.clear-requires-clause-fits
clear-requires-clause-fits g c = fits_records (g.K.Gpi.content c.args.kernel.now) (state_in c.args.self.now.records) c.args.self.now.kept c.requires.keys

pub clear-requires-clause-kept : goal.clear-requires-clause-kept
clear-requires-clause-kept g c = c.args.self.now.kept

pub invariant_of-self : goal.invariant_of-self
invariant_of-self g c = record { kept = c.clear.ensures.kept; few = omega (arith, c.clear.ensures.few, c.args.self.now.few) }

pub returns-clause-held : goal.returns-clause-held
returns-clause-held g c = held_alike (causes_in c.args.self.now.records) (causes_in c.clear.new.records) c.clear.ensures.held c.clear.ensures.shrinks

pub returns-clause-keys : goal.returns-clause-keys
returns-clause-keys g c =
    rekeyed_names (g.K.Gpi.content c.args.kernel.now) (g.K.Gpi.content c.clear.new.kernel) [] (state_in c.args.self.now.records) (state_in c.clear.new.records) c.args.self.now.kept c.clear.ensures.kept c.clear.ensures.keys.keys
