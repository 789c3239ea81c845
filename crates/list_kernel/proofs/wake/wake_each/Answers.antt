use Rattle.std.proofs.Common.{rules, arith}
use Rattle.std.proofs.lemmas.Grind.{common_steps}
use Rattle.std.proofs.lemmas.List.{take-append-le}
use Rattle.list_kernel.proofs.Wakes.{woken_yes, woken_no}
use Rattle.kernel_base.proofs.Lists.{holds_push, apart}
use Rattle.list_kernel.proofs.wake.wake_each.Goals.{then-is_woken, else-is_woken}
use Rattle.list_kernel.proofs.wake.wake_each.Goals as goal

pub loop-n-preserved : goal.loop-n-preserved
loop-n-preserved c =
    elim c.if-is_woken.branch [
      | then-is_woken w ↦ record {
        inside = omega arith;
        front = grind (arith, common_steps);
        old = grind (arith, common_steps, take-append-le);
        woken = grind (arith, woken_yes);
        fresh = λ q k. grind (arith, common_steps, holds_push, apart, c.loop-n.invariant.fresh q);
        below = search rules;
        distinct = search rules;
        room = grind (arith, common_steps);
      }
      | else-is_woken w ↦ record {
        inside = omega arith;
        front = search rules;
        old = search rules;
        woken = grind (arith, woken_no);
        fresh = λ q k. grind (arith, c.loop-n.invariant.fresh q);
        below = search rules;
        distinct = search rules;
        room = grind (arith, common_steps);
      }
    ]
