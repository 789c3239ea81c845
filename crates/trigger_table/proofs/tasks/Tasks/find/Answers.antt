use Rattle.std.proofs.Common.{◌∙◌}
use Rattle.trigger_table.proofs.TaskLemmas.{task_found, task_absent}
use Rattle.trigger_table.proofs.tasks.Tasks.find.Goals as goal

pub returns-clause-some : goal.returns-clause-some
returns-clause-some c = task_found c.args.self.now.slab.slots c.args.self.now.index c.args.self.now.indexed c.args.task _ (c.copied.ensures ∙ c.get.ensures.value)

pub returns-clause-none : goal.returns-clause-none
returns-clause-none c = task_absent c.args.self.now.slab.slots c.args.self.now.index c.args.self.now.indexed c.args.task _ (c.copied.ensures ∙ c.get.ensures.value)
