use Rattle.std.proofs.Common.{length, arith, sym, ◌∙◌}
use Rattle.std.proofs.lemmas.Result.{err_from_is_err_and}
use Rattle.v_expression.proofs.PhraseLemmas.Loops.{listed_stop, listed_empty, comma_fail, listed_more, listed_fail}
use Rattle.v_expression.proofs.phrase.list.others.Goals as goal
use Rattle.v_expression.proofs.phrase.list.others.Goals.{else-loop-test, then-loop-test+then-not-starts_mark}

pub returns-in_err-behind : goal.returns-in_err-behind
returns-in_err-behind g c =
    let q = err_from_is_err_and c.from_residual-in_err-behind.result c.from_residual-in_err-behind.ensures.1 in
    rw (q.1, q.2) (comma_fail g.T.Element.tree (g.T.Element.reading c.args.total c.args.room) c.loop.all.items (length c.args.tokens.now) c.loop.counter c.loop.rest.now
    c.loop-test.true _ c.starts_mark.ensures c.if-not-starts_mark.false _ _ c.loop.invariant c.in_err-behind.ensures)

pub returns-in_err-another : goal.returns-in_err-another
returns-in_err-another g c =
    let q = err_from_is_err_and c.from_residual-in_err-another.result c.from_residual-in_err-another.ensures.1 in
    rw (q.1, q.2) (listed_fail g.T.Element.tree (g.T.Element.reading c.args.total c.args.room) c.loop.all.items (length c.args.tokens.now) c.loop.counter c.loop.rest.now
    c.loop-test.true _ c.starts_mark.ensures c.if-not-starts_mark.false c.in_ok-behind.behind.now c.in_ok-behind.ensures _ _ c.loop.invariant c.in_err-another.ensures)

pub loop-preserved : goal.loop-preserved
loop-preserved g c =
    listed_more g.T.Element.tree (g.T.Element.reading c.args.total c.args.room) c.loop.all.items (length c.args.tokens.now) c.loop.counter c.loop.rest.now
    c.loop-test.true _ c.starts_mark.ensures c.if-not-starts_mark.false c.in_ok-behind.behind.now c.in_ok-behind.ensures _ c.in_ok-another.another _
    c.in_ok-push-2.ensures.items c.in_ok-another.ensures ∙ c.loop.invariant

pub returns : goal.returns
returns g c =
    let p = g.T.Element.reading c.args.total c.args.room in
    elim c.loop-test.branch [
      | else-loop-test w ↦ sym c.loop.invariant ∙ listed_empty g.T.Element.tree p c.loop.all.items (length c.args.tokens.now) c.loop.counter c.loop.rest.now (omega arith)
      | then-loop-test+then-not-starts_mark w ↦
          sym c.loop.invariant ∙ listed_stop g.T.Element.tree p c.loop.all.items (length c.args.tokens.now) c.loop.counter c.loop.rest.now (sym w.starts_mark.ensures ∙ w.if-not-starts_mark.true)
    ]
