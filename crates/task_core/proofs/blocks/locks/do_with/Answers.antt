use Rattle.std.proofs.lemmas.Result.{IfOk-weaker}
use Rattle.py_syntax.specs.ExpressionTrees.{view}
use Rattle.task_core.proofs.BlocksLemmas.Ways.{acquired}
use Rattle.task_core.proofs.blocks.locks.do_with.Goals as goal

pub returns-in-Ok-clause-moved : goal.returns-in-Ok-clause-moved
returns-in-Ok-clause-moved g c =
    IfOk-weaker c.acquire.result _ _ (λ wish h. acquired g.C.Code.reads (view c.args.lock.now) (g.C.Code.reads c.args.block).block c.in-Ok.acquiring c.eval_lock.new.next c.args.next.now
    c.args.call.now c.acquire.new.call wish c.args.task (g.V.Look.view c.args.view.now) c.in-Ok.ensures.ends h) c.acquire.ensures
