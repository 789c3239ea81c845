use Rattle.std.proofs.Common.{refl}
use Rattle.trigger_table.specs.Records.{rows_in}
use Rattle.trigger_table.proofs.RingLemmas.{tidy}
use Rattle.trigger_table.proofs.KeptLemmas.{sound_unmake}
use Rattle.trigger_table.proofs.records.Records.remove_cause.Goals as goal

pub invariant_of-self : goal.invariant_of-self
unfolding rows_in
invariant_of-self g c = record {
  sound = sound_unmake _ _ _ _ _ _ _ c.args.self.now.sound c.args.number (tidy c.args.self.now.by_cause) (tidy c.args.self.now.by_task) c.requires.bare c.remove.ensures.sets;
}

pub returns-clause-rows : goal.returns-clause-rows
unfolding rows_in
returns-clause-rows g c = refl
