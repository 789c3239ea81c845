use Rattle.std.proofs.Common.{refl, nat_eq}
use Rattle.trigger_table.specs.Entries.{task_name}
use Rattle.trigger_table.proofs.IndexLemmas.{indexed_remove, sets_of}
use Rattle.trigger_table.proofs.TaskLemmas.{number_same, number_self}
use Rattle.trigger_table.proofs.tasks.Tasks.remove.Goals as goal

pub invariant_of-self : goal.invariant_of-self
invariant_of-self c = record {
  indexed = indexed_remove nat_eq number_same number_self task_name c.args.self.now.slab.slots _ c.args.self.now.index c.remove.new.self c.args.self.now.indexed c.remove-record.result.task.0 c.args.number c.remove-record.result c.remove-record.ensures.value refl
      (sets_of _ _ _ _ c.remove-record.ensures.updates) c.remove.ensures.updates;
}
