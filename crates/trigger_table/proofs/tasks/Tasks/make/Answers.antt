use Rattle.std.proofs.Common.{◌≡◌, List, Option, Some, None, get_or, refl, sym, ap, ◌∙◌, subst, nat_eq}
use Rattle.slab.specs.Slab.{Slab}
use Rattle.trigger_table.specs.Entries.{task_name}
use Rattle.trigger_table.specs.Indexed.{Sets}
use Rattle.trigger_table.specs.declared.entries.TaskRecord.{TaskRecord}
use Rattle.trigger_table.proofs.IndexLemmas.{indexed_make, sets_made}
use Rattle.trigger_table.proofs.TaskLemmas.{number_same, number_self, no_task}
use Rattle.trigger_table.proofs.tasks.Tasks.make.Goals as goal

pub invariant_of-self-2 : goal.invariant_of-self-2
invariant_of-self-2 c = record {
  indexed =
      let same : c.insert_reserved.result ≡ c.vacant_key-number.result = c.insert_reserved.ensures.key ∙ sym c.vacant_key-number.ensures.value in
      let made : TaskRecord = record { task = c.args.task; tree = c.args.tree } in
      let sets = sets_made c.args.self.now.slab c.reserve.new.self c.insert_reserved.new.self c.insert_reserved.result (Some made) c.reserve.ensures.rest_kept c.insert_reserved.ensures.updates in
      let vacant = ap (λ (xs : List (Option TaskRecord)). get_or xs c.insert_reserved.result None) (sym (ap (λ (s : Slab TaskRecord). s.slots) c.reserve.ensures.rest_kept)) ∙ c.insert_reserved.ensures.was_vacant in
      indexed_make nat_eq number_same number_self task_name c.args.self.now.slab.slots _ c.args.self.now.index c.insert.new.self c.args.self.now.indexed c.args.task.0 c.vacant_key-number.result made refl
      (no_task c.args.self.now.slab.slots c.args.self.now.index c.args.self.now.indexed c.args.task c.requires)
      (ap (λ k. get_or c.args.self.now.slab.slots k None) (sym same) ∙ vacant)
      (subst (λ k. Sets c.args.self.now.slab.slots c.insert_reserved.new.self.slots k (Some made)) same sets) c.in_ok-insert.ensures.updates;
}
