use Rattle.std.proofs.Common.{List, [], sym, subst, arith}
use Rattle.gpi.specs.declared.types.Key.{Key}
use Rattle.await_tree.specs.WaitList.Parts.{Fits}
use Rattle.trigger_table.specs.Keys.{record_keys, runner_keys}
use Rattle.trigger_table.specs.Records.{causes_in, state_in}
use Rattle.trigger_table.proofs.BeginLemmas.{held_alike}
use Rattle.trigger_table.proofs.TableLemmas.{fits_records, rekeyed_names}
use Rattle.trigger_table.proofs.keeper.TriggerTable.wake.Goals as goal

pub reach-requires-clause-kept : goal.reach-requires-clause-kept
reach-requires-clause-kept g c = c.args.self.now.kept

pub reach-requires-clause-few : goal.reach-requires-clause-few
reach-requires-clause-few g c = c.args.self.now.few

pub reach-requires-clause-fits : goal.reach-requires-clause-fits
reach-requires-clause-fits g c =
    subst (λ (ks : List Key). Fits (g.K.Gpi.content c.args.kernel.now) ks (runner_keys (causes_in c.args.self.now.records)) (record_keys (causes_in c.args.self.now.records))) (sym c.none_fired-none.ensures)
    (fits_records (g.K.Gpi.content c.args.kernel.now) (state_in c.args.self.now.records) c.args.self.now.kept c.requires.keys)

pub invariant_of-self : goal.invariant_of-self
invariant_of-self g c = record { kept = c.reach.ensures.kept; few = omega (arith, c.reach.ensures.few, c.args.self.now.few) }

pub returns-clause-held : goal.returns-clause-held
returns-clause-held g c = held_alike (causes_in c.args.self.now.records) (causes_in c.reach.new.records) c.reach.ensures.held c.reach.ensures.shrinks

pub returns-clause-keys : goal.returns-clause-keys
returns-clause-keys g c =
    rekeyed_names (g.K.Gpi.content c.args.kernel.now) (g.K.Gpi.content c.reach.new.kernel) [] (state_in c.args.self.now.records) (state_in c.reach.new.records) c.args.self.now.kept c.reach.ensures.kept c.reach.ensures.keys.keys

pub returns-clause-ticks : goal.returns-clause-ticks
returns-clause-ticks g c = omega (arith, c.reach.ensures.ticks)
