use Rattle.std.proofs.Common.{◌∙◌}
use Rattle.trigger_table.proofs.NameLemmas.{cause_found, cause_absent}
use Rattle.trigger_table.proofs.causes.Causes.find.Goals as goal

pub returns-clause-some : goal.returns-clause-some
returns-clause-some c =
    cause_found c.args.self.now.slab.slots c.args.self.now.index c.args.self.now.indexed c.args.on c.name_of.result c.name_of.ensures _ (c.copied.ensures ∙ c.get.ensures.value)

pub returns-clause-none : goal.returns-clause-none
returns-clause-none c =
    cause_absent c.args.self.now.slab.slots c.args.self.now.index c.args.self.now.indexed c.args.on c.name_of.result c.name_of.ensures _ (c.copied.ensures ∙ c.get.ensures.value)
