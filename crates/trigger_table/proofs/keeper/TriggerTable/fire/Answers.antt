use Rattle.std.proofs.Common.{arith}
use Rattle.await_tree.specs.WaitList.Waiting.{fired_keys}
use Rattle.trigger_table.specs.Records.{state_in}
use Rattle.trigger_table.proofs.TableLemmas.{fired_records, rekeyed_names}
use Rattle.trigger_table.proofs.keeper.TriggerTable.fire.Goals as goal

pub fire-requires-clause-kept : goal.fire-requires-clause-kept
fire-requires-clause-kept g c = c.args.self.now.kept

pub fire-requires-clause-few : goal.fire-requires-clause-few
fire-requires-clause-few g c = c.args.self.now.few

pub fire-requires-clause-keys : goal.fire-requires-clause-keys
fire-requires-clause-keys g c = fired_records (g.K.Gpi.content c.args.kernel.now) (fired_keys c.args.fired) (state_in c.args.self.now.records) c.args.self.now.kept c.requires.keys

pub invariant_of-self : goal.invariant_of-self
invariant_of-self g c = record { kept = c.fire.ensures.kept; few = omega (arith, c.fire.ensures.few, c.args.self.now.few) }

pub returns-clause-keys : goal.returns-clause-keys
returns-clause-keys g c =
    rekeyed_names (g.K.Gpi.content c.args.kernel.now) (g.K.Gpi.content c.fire.new.kernel) (fired_keys c.args.fired) (state_in c.args.self.now.records) (state_in c.fire.new.records) c.args.self.now.kept c.fire.ensures.kept c.fire.ensures.keys
