use Rattle.std.proofs.Common.{rules}
use Rattle.plain_task.proofs.TreeLemmas.{functions_more}
use Rattle.plain_task.proofs.functions.TreeFunctions.of.Goals as goal

pub loop-at-preserved : goal.loop-at-preserved
loop-at-preserved c =
    rw c.in_ok-push.ensures.items
    (functions_more c.loop-at.functions.items _ c.args.file.now.functions c.loop-at.at c.get-function.result.now c.get-function.ensures (search rules) c.loop-at.invariant)
