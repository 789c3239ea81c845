use Rattle.std.proofs.Common.{refl, sym}
use Rattle.trigger_table.specs.Entries.{cause_name}
use Rattle.trigger_table.specs.declared.entries.CauseRecord.{CauseRecord}
use Rattle.trigger_table.proofs.IndexLemmas.{indexed_set, sets_slot}
use Rattle.trigger_table.proofs.NameLemmas.{name_same, name_self}
use Rattle.trigger_table.proofs.causes.Causes.set_held.Goals as goal

pub invariant_of-self : goal.invariant_of-self
invariant_of-self c = record {
  indexed =
      let new : CauseRecord = record { on = c.in-Some.record.now.on; held = c.args.held } in
      indexed_set _ name_same name_self cause_name c.args.self.now.slab.slots _ c.args.self.now.index c.args.self.now.indexed c.args.number c.in-Some.record.now new (sym c.in-Some.ensures.value) refl
      (sets_slot c.args.self.now.slab.slots c.args.number c.in-Some.record.now new (sym c.in-Some.ensures.value));
}
