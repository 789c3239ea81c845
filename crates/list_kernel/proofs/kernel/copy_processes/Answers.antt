use Rattle.std.proofs.Common.{arith}
use Rattle.std.proofs.lemmas.Grind.{common_steps}
use Rattle.kernel_base.proofs.Opening.{copied, copied_sound}
use Rattle.list_kernel.proofs.kernel.copy_processes.Goals as goal

pub loop-at-preserved : goal.loop-at-preserved
loop-at-preserved c = record {
  count = grind (arith, common_steps);
  made = rw c.in_ok-push.ensures.items
      (copied c.loop-at.copies.items c.args.processes.now c.loop-at.at c.get.result.now c.in_ok-copy.copy c.get.ensures c.in_ok-copy.ensures.0 c.loop-at.invariant.made);
  sound = λ ws h. rw c.in_ok-push.ensures.items
      (copied_sound c.loop-at.copies.items c.args.processes.now c.loop-at.at c.get.result.now c.in_ok-copy.copy ws c.get.ensures c.in_ok-copy.ensures.1 (c.in_ok-copy.ensures.2 ws) (c.loop-at.invariant.sound ws h));
}
