use Rattle.std.proofs.Common.{List, [], length, ap, arith}
use Rattle.trigger_table.specs.Records.{state_in}
use Rattle.trigger_table.specs.State.{Row}
use Rattle.trigger_table.specs.Tied.{waiting_in}
use Rattle.trigger_table.proofs.TableLemmas.{but_records, rekeyed_names}
use Rattle.trigger_table.proofs.keeper.TriggerTable.release.Goals as goal

pub release-requires-clause-kept : goal.release-requires-clause-kept
release-requires-clause-kept g c = c.args.self.now.kept

pub release-requires-clause-keys : goal.release-requires-clause-keys
release-requires-clause-keys g c = but_records (g.K.Gpi.content c.args.kernel.now) (state_in c.args.self.now.records) c.args.self.now.kept c.requires.keys

pub invariant_of-self : goal.invariant_of-self
invariant_of-self g c = record { kept = c.release.ensures.kept; few = omega (arith, ap (λ (rs : List Row). length rs) c.release.ensures.rows, c.args.self.now.few) }

pub returns-clause-waiting : goal.returns-clause-waiting
returns-clause-waiting g c = ap waiting_in c.release.ensures.rows

pub returns-clause-keys : goal.returns-clause-keys
returns-clause-keys g c =
    rekeyed_names (g.K.Gpi.content c.args.kernel.now) (g.K.Gpi.content c.release.new.kernel) [] (state_in c.args.self.now.records) (state_in c.release.new.records) c.args.self.now.kept c.release.ensures.kept c.release.ensures.keys.keys
