use Rattle.std.proofs.Common.{List, ◌++◌, refl, ap, ◌∙◌}
use Rattle.std.specs.Prelude.{slice_set}
use Rattle.await_tree.specs.Fire.{fire}
use Rattle.await_tree.specs.declared.wait_list.ready.Entry.{Entry}
use Rattle.plain_waits.specs.Kept.{waiting_in}
use Rattle.plain_waits.proofs.Walks.{changed_passes, changed_woken, set_few}
use Rattle.plain_waits.proofs.keeper.WaitList.fire_at.Goals as goal

pub returns-clause-passes : goal.returns-clause-passes
returns-clause-passes c = changed_passes (fire c.args.cause) c.args.self.now.waiting.items (slice_set c.args.self.now.waiting.items c.args.at c.fire-step.new.self) c.args.at c.index_mut.result.now c.fire-step.new.self c.fire-step.result c.requires.at c.index_mut.ensures.value refl c.fire-step.ensures.task c.fire-step.ensures.answer c.fire-step.ensures.rest (waiting_in c.settle.new.self) c.settle.result c.settle.ensures.passes

pub returns-clause-ready : goal.returns-clause-ready
returns-clause-ready c = c.settle.ensures.ready ∙ ap (λ (es : List Entry). c.args.ready.now.entries ++ es) (changed_woken (fire c.args.cause) c.args.self.now.waiting.items (slice_set c.args.self.now.waiting.items c.args.at c.fire-step.new.self) c.args.at c.index_mut.result.now c.fire-step.new.self c.fire-step.result c.requires.at c.index_mut.ensures.value refl c.fire-step.ensures.task c.fire-step.ensures.answer c.fire-step.ensures.rest)

pub invariant_of-self : goal.invariant_of-self
invariant_of-self c = record { few = set_few c.args.self.now.waiting.items (slice_set c.args.self.now.waiting.items c.args.at c.fire-step.new.self) c.args.at 65536 c.fire-step.new.self refl c.args.self.now.few }
