use Rattle.std.proofs.Common.{◌≡◌, List, Option, Some, None, get_or, false, sym, ap, ◌∙◌, subst}
use Rattle.slab.specs.Slab.{Slab}
use Rattle.trigger_table.specs.Entries.{cause_name}
use Rattle.trigger_table.specs.Indexed.{Sets}
use Rattle.trigger_table.specs.declared.entries.CauseRecord.{CauseRecord}
use Rattle.trigger_table.proofs.IndexLemmas.{indexed_make, sets_made}
use Rattle.trigger_table.proofs.NameLemmas.{name_eq, name_same, name_self, no_number}
use Rattle.std.specs.HashMap.{get}
use Rattle.trigger_table.proofs.causes.Causes.make.Goals as goal

pub invariant_of-self-2 : goal.invariant_of-self-2
invariant_of-self-2 c = record {
  indexed =
      let same : c.insert_reserved.result ≡ c.vacant_key-number.result = c.insert_reserved.ensures.key ∙ sym c.vacant_key-number.ensures.value in
      let made : CauseRecord = record { on = c.args.on; held = false } in
      let sets = sets_made c.args.self.now.slab c.reserve.new.self c.insert_reserved.new.self c.insert_reserved.result (Some made) c.reserve.ensures.rest_kept c.insert_reserved.ensures.updates in
      let vacant = ap (λ (xs : List (Option CauseRecord)). get_or xs c.insert_reserved.result None) (sym (ap (λ (s : Slab CauseRecord). s.slots) c.reserve.ensures.rest_kept)) ∙ c.insert_reserved.ensures.was_vacant in
      indexed_make _ name_same name_self cause_name c.args.self.now.slab.slots _ c.args.self.now.index c.insert.new.self c.args.self.now.indexed c.name_of.result c.vacant_key-number.result made (sym c.name_of.ensures)
      (ap (get name_eq c.args.self.now.index) c.name_of.ensures ∙ no_number c.args.self.now.slab.slots c.args.self.now.index c.args.self.now.indexed c.args.on c.requires)
      (ap (λ k. get_or c.args.self.now.slab.slots k None) (sym same) ∙ vacant)
      (subst (λ k. Sets c.args.self.now.slab.slots c.insert_reserved.new.self.slots k (Some made)) same sets) c.in_ok-insert.ensures.updates;
}
