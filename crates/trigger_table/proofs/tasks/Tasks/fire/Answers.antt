use Rattle.await_tree.specs.Fire as fire
use Rattle.trigger_table.proofs.TaskLemmas.{told_of, told_indexed}
use Rattle.trigger_table.proofs.tasks.Tasks.fire.Goals as goal

pub invariant_of-self : goal.invariant_of-self
invariant_of-self c = record {
  indexed = told_indexed c.args.self.now.slab.slots c.args.self.now.index c.args.self.now.indexed c.args.number c.index_mut.result.now c.fire.new.self c.index_mut.ensures.value;
}

pub returns : goal.returns
returns c =
    told_of c.args.self.now.slab.slots c.args.number c.index_mut.result.now c.fire.new.self (fire.fire c.args.cause) c.fire.result c.index_mut.ensures.value c.fire.ensures.answer c.fire.ensures.rest
