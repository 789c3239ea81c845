use Rattle.plain_waits.specs.Kept.{names_of, waiting_in}
use Rattle.await_tree.proofs.WaitListLemmas.Members.{within_self}
use Rattle.await_tree.proofs.WaitListLemmas.Rekeys.{narrows_none}
use Rattle.plain_waits.proofs.Walks.{passes_other, passes_own}
use Rattle.plain_waits.proofs.keeper.WaitList.pass.Goals as goal

pub returns-then-index-task-clause-passes : goal.returns-then-index-task-clause-passes
returns-then-index-task-clause-passes g c = passes_own c.args.self.now.waiting.items (waiting_in c.drop_at.new.self) c.args.at c.index.result.now c.args.task c.requires.at c.index.ensures c.if-index-task.true c.drop_at.ensures.waiting

pub returns-clause-passes : goal.returns-clause-passes
returns-clause-passes g c = passes_other c.args.self.now.waiting.items c.args.at c.index.result.now c.args.task c.requires.at c.index.ensures c.if-index-task.false

pub returns-clause-keys : goal.returns-clause-keys
returns-clause-keys g c = narrows_none (g.K.Gpi.content c.args.kernel.now) (names_of c.args.self.now) (names_of c.args.self.now) (λ k h. c.requires.fits.keys.within k h) (within_self (names_of c.args.self.now))
