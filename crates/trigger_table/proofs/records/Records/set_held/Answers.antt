use Rattle.std.proofs.Common.{refl}
use Rattle.trigger_table.specs.Records.{rows_in}
use Rattle.trigger_table.proofs.KeptLemmas.{sound_make}
use Rattle.trigger_table.proofs.EntryLemmas.{some_cause}
use Rattle.trigger_table.proofs.records.Records.set_held.Goals as goal

pub invariant_of-self : goal.invariant_of-self
invariant_of-self g c = record {
  sound =
      let one = some_cause c.args.self.now.causes.slab.slots c.args.number c.requires in
      sound_make _ _ _ _ _ _ _ c.args.self.now.sound c.args.number _ (c.set_held.ensures one.0 one.1);
}

pub returns-clause-rows : goal.returns-clause-rows
unfolding rows_in
returns-clause-rows g c = refl
