use Rattle.std.proofs.Common.{◌≡◌}
use Rattle.task_core.specs.Blocks.Handlers.{first_catching, handler_count}
use Rattle.task_core.proofs.blocks.handlers.first_for.Given as goal

abbrev pub invariant-loop-handler : goal.invariant-loop-handler
invariant-loop-handler g l =
    first_catching l.fn.kind (g.C.Code.reads l.rest).handlers ≡ first_catching l.fn.kind (g.C.Code.reads l.fn.handlers).handlers

abbrev pub decreases-loop-handler : goal.decreases-loop-handler
decreases-loop-handler g l = handler_count (g.C.Code.reads l.rest).handlers
