use Rattle.py_expression.specs.Shown.{height_limit}
use Rattle.std.proofs.Common.{◌+◌, ◌-◌, length, arith, sym, ◌∙◌}
use Rattle.std.proofs.lemmas.Result.{err_from_is_err_and}
use Rattle.py_statement.proofs.CallLemmas.Runs.{more_next, more_done, more_fails, more_out, more_start}
use Rattle.py_statement.proofs.call.arguments.some_arguments.Goals as goal

pub loop-init : goal.loop-init
loop-init c = more_start height_limit _ c.args.tokens.now _ (omega arith) c.new-all.ensures

pub returns-in_err-more : goal.returns-in_err-more
returns-in_err-more c =
    let p = err_from_is_err_and c.from_residual.result c.from_residual.ensures.1 in
    rw (p.1, p.2) (more_fails height_limit _ (length c.args.tokens.now - (c.loop.counter + 1)) _ _ _ _ (omega arith) c.loop.invariant c.in_err-more.ensures)

pub returns-in-Done : goal.returns-in-Done
returns-in-Done c =
    sym c.loop.invariant ∙ more_done height_limit _ (length c.args.tokens.now - (c.loop.counter + 1)) _ _ _ _ (omega arith) (rw c.in-Done.is at c.in_ok-more.ensures)

pub loop-preserved : goal.loop-preserved
loop-preserved c =
    sym (more_next height_limit _ (length c.args.tokens.now - (c.loop.counter + 1)) _ _ _ _ (omega arith) (rw c.in-Going.is at c.in_ok-more.ensures)) ∙ c.loop.invariant

pub returns : goal.returns
returns c = sym c.loop.invariant ∙ more_out height_limit _ _ _ (omega arith)
