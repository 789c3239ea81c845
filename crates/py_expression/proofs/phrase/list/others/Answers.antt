use Rattle.std.proofs.Common.{◌+◌, ◌-◌, arith, sym, ◌∙◌}
use Rattle.std.proofs.lemmas.Result.{err_from_is_err_and}
use Rattle.py_expression.proofs.PhraseLemmas.Steps.{others_end, others_next, others_no_mark, others_no_element, others_out}
use Rattle.py_expression.proofs.phrase.list.others.Goals as goal

pub returns-in-Some : goal.returns-in-Some
returns-in-Some g c =
    others_end _ _ _ _ (c.args.most - (c.loop.counter + 1)) _ _ _ _ (omega arith) c.in-Some.ensures c.loop.invariant

pub returns-in_err-expect : goal.returns-in_err-expect
returns-in_err-expect g c =
    let p = err_from_is_err_and c.from_residual-in_err-expect.result c.from_residual-in_err-expect.ensures.1 in
    rw (p.1, p.2)
    (others_no_mark _ _ _ _ (c.args.most - (c.loop.counter + 1)) _ _ _ _ (omega arith) (c.in_default.ensures) (c.in_err-expect.ensures) c.loop.invariant)

pub returns-in_err-next : goal.returns-in_err-next
returns-in_err-next g c =
    let p = err_from_is_err_and c.from_residual-in_err-next.result c.from_residual-in_err-next.ensures.1 in
    rw (p.1, p.2)
    (others_no_element _ _ _ _ (c.args.most - (c.loop.counter + 1)) _ _ _ _ _ (omega arith) (c.in_default.ensures) (c.in_ok-expect.ensures) (c.in_err-next.ensures) c.loop.invariant)

pub loop-preserved : goal.loop-preserved
loop-preserved g c =
    rw (c.in_ok-all-2.ensures)
    (sym (others_next _ _ _ _ (c.args.most - (c.loop.counter + 1)) _ _ _ _ _ (omega arith) (c.in_default.ensures) (c.in_ok-expect.ensures) (c.in_ok-next.ensures)) ∙ c.loop.invariant)

pub returns : goal.returns
returns g c = others_out _ _ _ _ _ _ _ (omega arith) c.loop.invariant
