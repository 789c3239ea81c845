use Rattle.std.proofs.Common.{◌∙◌, arith}
use Rattle.await_tree.specs.Fire.{awaits}
use Rattle.await_tree.specs.WaitList.Waiting.{Waiting}
use Rattle.plain_waits.specs.Kept.{waiting_in}
use Rattle.plain_waits.proofs.Walks.{any_here, any_more}
use Rattle.plain_waits.proofs.keeper.WaitList.first_on.Goals as goal

pub returns-then-has_leaf-clause-there : goal.returns-then-has_leaf-clause-there
returns-then-has_leaf-clause-there c = λ _. any_here c.args.on c.args.self.now.waiting.items c.loop-at.at c.index.result.now c.has_leaf.result c.as_slice.result.now (omega arith) c.index.ensures (c.as_slice.ensures.is ∙ c.leaves.ensures) c.has_leaf.ensures ∙ c.if-has_leaf.true

pub loop-at-preserved : goal.loop-at-preserved
loop-at-preserved c = record {
  inside = omega arith;
  before = any_more (λ (w : Waiting). awaits c.args.on w.tree) (waiting_in c.args.self.now) c.loop-at.at c.loop-at.invariant.before (any_here c.args.on c.args.self.now.waiting.items c.loop-at.at c.index.result.now c.has_leaf.result c.as_slice.result.now (omega arith) c.index.ensures (c.as_slice.ensures.is ∙ c.leaves.ensures) c.has_leaf.ensures ∙ c.if-has_leaf.false);
}

pub returns-clause-there : goal.returns-clause-there
returns-clause-there c = λ h. absurd (omega arith)
