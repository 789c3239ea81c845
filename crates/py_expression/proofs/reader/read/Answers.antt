use Rattle.py_expression.specs.Shown.{height_limit}
use Rattle.std.proofs.Common.{◌+◌, ◌-◌, ◌*◌, length, arith, sym, ◌∙◌}
use Rattle.std.proofs.lemmas.Result.{err_from_is_err_and}
use Rattle.py_expression.proofs.Steps.{run_next, run_done, run_fails, run_out, read_start}
use Rattle.py_expression.proofs.reader.read.Goals as goal

pub loop-init : goal.loop-init
loop-init c = read_start height_limit c.args.least _ c.args.tokens.now _ (omega arith) c.start-spot.ensures

pub returns-in_err-next : goal.returns-in_err-next
returns-in_err-next c =
    let p = err_from_is_err_and c.from_residual.result c.from_residual.ensures.1 in
    rw (p.1, p.2) (run_fails height_limit _ (2 * length c.args.tokens.now - c.loop.counter) _ _ _ (omega arith) c.loop.invariant c.in_err-next.ensures)

pub returns-in-Done : goal.returns-in-Done
returns-in-Done c =
    sym c.loop.invariant ∙ run_done height_limit _ (2 * length c.args.tokens.now - c.loop.counter) _ _ _ (omega arith) (rw c.in-Done.is at c.in_ok-next.ensures)

pub loop-preserved : goal.loop-preserved
loop-preserved c =
    sym (run_next height_limit _ (2 * length c.args.tokens.now + 1 - (c.loop.counter + 1)) _ _ (omega arith) (rw c.in-Going.is at c.in_ok-next.ensures)) ∙ c.loop.invariant

pub returns : goal.returns
returns c = sym c.loop.invariant ∙ run_out height_limit _ _ (omega arith)
