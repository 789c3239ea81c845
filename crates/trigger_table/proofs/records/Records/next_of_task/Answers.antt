use Rattle.std.proofs.Common.{sym, ap, ◌∙◌}
use Rattle.trigger_table.specs.Links.{behind}
use Rattle.trigger_table.proofs.CursorLemmas.{waiter_owned, waiters_chain}
use Rattle.trigger_table.proofs.records.Records.next_of_task.Goals as goal

pub next-requires : goal.next-requires
next-requires g c = waiter_owned c.args.self.now c.args.number c.args.waiter c.requires.has c.requires.of

pub returns-clause-value : goal.returns-clause-value
returns-clause-value g c = c.next.ensures.value ∙ ap (behind c.args.waiter) (sym (waiters_chain c.args.self.now c.args.number c.requires.has))
