use Rattle.std.proofs.Common.{List, length, ap, arith}
use Rattle.trigger_table.specs.Records.{state_in}
use Rattle.trigger_table.specs.State.{Row}
use Rattle.trigger_table.specs.Tied.{waiting_in}
use Rattle.trigger_table.proofs.TableLemmas.{both_ok, held_rekeyed, key_known}
use Rattle.trigger_table.proofs.keeper.TriggerTable.hold.Goals as goal

pub hold-requires-clause-kept : goal.hold-requires-clause-kept
hold-requires-clause-kept g c = c.args.self.now.kept

pub hold-requires-clause-there : goal.hold-requires-clause-there
hold-requires-clause-there g c = key_known (g.K.Gpi.content c.args.kernel.now) (state_in c.args.self.now.records) c.args.key c.args.self.now.kept c.requires.keys c.requires.new

pub invariant_of-self : goal.invariant_of-self
invariant_of-self g c = record { kept = c.hold.ensures.kept; few = omega (arith, ap (λ (rs : List Row). length rs) c.hold.ensures.rows, c.args.self.now.few) }

pub returns-clause-waiting : goal.returns-clause-waiting
returns-clause-waiting g c = ap waiting_in c.hold.ensures.rows

pub returns-clause-keys : goal.returns-clause-keys
returns-clause-keys g c =
    both_ok c.hold.result _ _ _ c.hold.ensures.joins c.hold.ensures.ok
    (λ j h. held_rekeyed (g.K.Gpi.content c.args.kernel.now) (g.K.Gpi.content c.hold.new.kernel) c.args.key (state_in c.args.self.now.records) (state_in c.hold.new.records) c.hold.ensures.rows j c.requires.keys h)
