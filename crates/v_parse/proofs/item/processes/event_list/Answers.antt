use Rattle.std.proofs.Common.{length, arith, sym, ◌∙◌}
use Rattle.std.proofs.lemmas.Result.{err_from_is_err_and}
use Rattle.v_syntax.specs.TokenMeanings.{event_separator}
use Rattle.v_parse.specs.Item.Firsts.{starts_separator}
use Rattle.v_parse.specs.Item.Reading.{event_reader}
use Rattle.v_expression.specs.Phrase.Readers.{token_of}
use Rattle.v_expression.proofs.PhraseLemmas.Loops.{plain_stop, plain_empty, plain_more, plain_fail}
use Rattle.v_parse.proofs.item.processes.event_list.Goals as goal
use Rattle.v_parse.proofs.item.processes.event_list.Goals.{else-loop-test, then-loop-test+then-not-starts_separator}

pub returns-in_err-another : goal.returns-in_err-another
returns-in_err-another c =
    let q = err_from_is_err_and c.from_residual-in_err-another.result c.from_residual-in_err-another.ensures.1 in
    rw (q.1, q.2) (plain_fail (starts_separator) (token_of event_separator) (event_reader c.args.total) c.loop.all.items (length c.in_ok-first.behind.now) c.loop.counter c.loop.rest.now
    c.loop-test.true _ c.starts_separator.ensures c.if-not-starts_separator.false tt c.in_ok-behind.behind.now c.in_ok-behind.ensures _ _ c.loop.invariant c.in_err-another.ensures)

pub loop-preserved : goal.loop-preserved
loop-preserved c =
    plain_more (starts_separator) (token_of event_separator) (event_reader c.args.total) c.loop.all.items (length c.in_ok-first.behind.now) c.loop.counter c.loop.rest.now
    c.loop-test.true _ c.starts_separator.ensures c.if-not-starts_separator.false tt c.in_ok-behind.behind.now c.in_ok-behind.ensures _ c.in_ok-another.another _
    c.in_ok-push-2.ensures.items c.in_ok-another.ensures ∙ c.loop.invariant

pub returns : goal.returns
returns c =
    elim c.loop-test.branch [
      | else-loop-test w ↦ sym c.loop.invariant ∙ plain_empty (starts_separator) (token_of event_separator) (event_reader c.args.total) c.loop.all.items (length c.in_ok-first.behind.now) c.loop.counter c.loop.rest.now (omega arith)
      | then-loop-test+then-not-starts_separator w ↦
          sym c.loop.invariant ∙ plain_stop (starts_separator) (token_of event_separator) (event_reader c.args.total) c.loop.all.items (length c.in_ok-first.behind.now) c.loop.counter c.loop.rest.now (sym w.starts_separator.ensures ∙ w.if-not-starts_separator.true)
    ]
