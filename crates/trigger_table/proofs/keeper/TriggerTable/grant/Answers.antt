use Rattle.std.proofs.Common.{[], arith}
use Rattle.trigger_table.specs.Records.{causes_in, state_in}
use Rattle.trigger_table.proofs.BeginLemmas.{held_alike}
use Rattle.trigger_table.proofs.TableLemmas.{fits_records, rekeyed_names}
use Rattle.trigger_table.proofs.keeper.TriggerTable.grant.Goals as goal

pub grant-requires-clause-kept : goal.grant-requires-clause-kept
grant-requires-clause-kept g c = c.args.self.now.kept

pub grant-requires-clause-fits : goal.grant-requires-clause-fits
grant-requires-clause-fits g c = fits_records (g.K.Gpi.content c.args.kernel.now) (state_in c.args.self.now.records) c.args.self.now.kept c.requires.keys

pub invariant_of-self : goal.invariant_of-self
invariant_of-self g c = record { kept = c.grant.ensures.kept; few = omega (arith, c.grant.ensures.few, c.args.self.now.few) }

pub returns-clause-held : goal.returns-clause-held
returns-clause-held g c = held_alike (causes_in c.args.self.now.records) (causes_in c.grant.new.records) c.grant.ensures.held c.grant.ensures.shrinks

pub returns-clause-keys : goal.returns-clause-keys
returns-clause-keys g c =
    rekeyed_names (g.K.Gpi.content c.args.kernel.now) (g.K.Gpi.content c.grant.new.kernel) [] (state_in c.args.self.now.records) (state_in c.grant.new.records) c.args.self.now.kept c.grant.ensures.kept c.grant.ensures.keys.keys
