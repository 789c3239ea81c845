use Rattle.std.proofs.Common.{◌-◌, ◌∙◌, arith}
use Rattle.plain_waits.proofs.Walks.{reached_back, reached_few}
use Rattle.plain_waits.proofs.keeper.WaitList.reached.Goals as goal

pub raised_if-count-requires : goal.raised_if-count-requires
raised_if-count-requires c = reached_few c.args.on c.args.self.now.waiting.items (c.back.at - 1) c.back.at 65536 c.back.count c.args.self.now.few (omega arith) (omega arith) c.back.invariant.count

pub back-preserved : goal.back-preserved
back-preserved c = record {
  inside = omega arith;
  count = c.raised_if-count.ensures
      ∙ reached_back c.args.on c.args.self.now.waiting.items (c.back.at - 1) c.back.at c.index.result.now c.has_leaf-is.result c.back.count c.as_slice.result.now (omega arith) c.index.ensures (omega arith) (c.as_slice.ensures.is ∙ c.leaves.ensures) c.has_leaf-is.ensures c.back.invariant.count;
}
