use Rattle.std.proofs.Common.{arith}
use Rattle.std.proofs.lemmas.Grind.{common_steps}
use Rattle.kernel_base.proofs.Lists.{holds_push}
use Rattle.fast_kernel.proofs.Marks.{marked_more}
use Rattle.fast_kernel.proofs.waiters.Finds.add.Goals as goal

pub returns-then-not-index-clause-found : goal.returns-then-not-index-clause-found
returns-then-not-index-clause-found c = λ q. grind (arith, holds_push)

pub returns-then-not-index-clause-marked : goal.returns-then-not-index-clause-marked
returns-then-not-index-clause-marked c = record {
  marked = marked_more c.args.self.now.is_found.items c.args.self.now.processes.items c.push_once.new.processes.items c.args.process c.requires.inside
      c.push_once.ensures.is c.requires.marked.marked;
  below = grind (arith, common_steps);
  distinct = c.push_once.ensures.distinct;
  few = grind (arith, common_steps);
  room = grind (arith, common_steps);
}
