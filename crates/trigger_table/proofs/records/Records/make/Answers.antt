use Rattle.std.proofs.Common.{refl, false}
use Rattle.trigger_table.specs.Records.{rows_in}
use Rattle.trigger_table.proofs.KeptLemmas.{sound_made}
use Rattle.trigger_table.proofs.records.Records.make.Goals as goal

pub invariant_of-self : goal.invariant_of-self
invariant_of-self g c = record {
  sound = sound_made _ _ _ _ _ _ _ c.args.self.now.sound _ (record { on = c.args.on; held = false }) c.make.ensures.ok c.make.ensures.err;
}

pub returns-clause-rows : goal.returns-clause-rows
unfolding rows_in
returns-clause-rows g c = refl
