use Rattle.std.proofs.Common.{length, arith, sym, ◌∙◌}
use Rattle.std.proofs.lemmas.Result.{err_from_is_err_and}
use Rattle.v_syntax.specs.SourceTrees.{view_item}
use Rattle.v_parse.specs.Item.Firsts.{starts_item}
use Rattle.v_parse.specs.Item.Reading.{item_of}
use Rattle.v_expression.proofs.PhraseLemmas.Loops.{items_stop, items_empty, items_more, items_fail}
use Rattle.v_parse.proofs.modules.items.Goals as goal
use Rattle.v_parse.proofs.modules.items.Goals.{else-loop-test, then-loop-test+then-not-starts_item}

pub returns-in_err-another : goal.returns-in_err-another
returns-in_err-another c =
    let q = err_from_is_err_and c.from_residual.result c.from_residual.ensures.1 in
    rw (q.1, q.2) (items_fail view_item (starts_item) (item_of c.args.total c.args.room) c.loop.all.items (length c.args.tokens.now) c.loop.counter c.loop.rest.now
    _ _ c.loop-test.true (sym c.starts_item.ensures ∙ c.if-not-starts_item.false) c.loop.invariant c.in_err-another.ensures.gives)

pub loop-preserved : goal.loop-preserved
loop-preserved c =
    items_more view_item (starts_item) (item_of c.args.total c.args.room) c.loop.all.items (length c.args.tokens.now) c.loop.counter c.loop.rest.now
    _ c.in_ok-another.another.value _ c.loop-test.true (sym c.starts_item.ensures ∙ c.if-not-starts_item.false) c.in_ok-all.ensures c.in_ok-another.ensures.gives ∙ c.loop.invariant

pub returns : goal.returns
returns c =
    elim c.loop-test.branch [
      | else-loop-test w ↦ sym c.loop.invariant ∙ items_empty view_item (starts_item) (item_of c.args.total c.args.room) c.loop.all.items (length c.args.tokens.now) c.loop.counter c.loop.rest.now (omega arith)
      | then-loop-test+then-not-starts_item w ↦ sym c.loop.invariant ∙ items_stop view_item (starts_item) (item_of c.args.total c.args.room) c.loop.all.items (length c.args.tokens.now) c.loop.counter c.loop.rest.now (sym w.starts_item.ensures ∙ w.if-not-starts_item.true)
    ]
