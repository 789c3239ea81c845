use Rattle.std.proofs.Common.{◌≡◌, ◌+◌, ◌-◌, max, length, arith, suc, ◌∙◌, sym, ap}
use Rattle.std.proofs.lemmas.Result.{err_from_is_err_and}
use Rattle.v_syntax.specs.ExpressionTrees.{view, views, trees_height}
use Rattle.v_expression.specs.Reading as reading
use Rattle.v_expression.specs.Reading.{layer}
use Rattle.v_expression.proofs.Loops.{steps_more, steps_fail, fails_same, parts_start, parts_more, parts_done, parts_lack, parts_fail, parts_empty, one_height, last_height}
use Rattle.v_expression.proofs.+expressions.Goals as goal

pub operators::steps_at-returns-in_err-grown-clause-gives : goal.operators::steps_at-returns-in_err-grown-clause-gives
operators::steps_at-returns-in_err-grown-clause-gives t c =
    let p = err_from_is_err_and c.from_residual.result c.from_residual.ensures.1 in
    rw (p.1, p.2) (fails_same _ _ _ c.loop.invariant.same
    (steps_fail c.args.room _ c.args.min (length c.args.tokens.now - c.loop.counter) (length c.args.tokens.now - (c.loop.counter + 1)) _ _ _ _ c.in-Some-operator_from.operator _
    (omega arith) c.in-Some.ensures (sym c.in-Some-operator_from.ensures) c.in_err-grown.ensures.gives))

pub operators::steps_at-loop-preserved : goal.operators::steps_at-loop-preserved
operators::steps_at-loop-preserved t c = record {
  same = steps_more c.args.room _ c.args.min _ _ _ _ _ _ _ _ c.in-Some-operator_from.operator
      (let e : length c.args.tokens.now - c.loop.counter ≡ suc (length c.args.tokens.now - (c.loop.counter + 1)) = omega arith in e)
      c.in-Some.ensures (sym c.in-Some-operator_from.ensures) c.in_ok-grown.ensures.gives ∙ c.loop.invariant.same;
  measured = c.in_ok-grown.ensures.height;
}

pub primaries::parts_at-loop-init : goal.primaries::parts_at-loop-init
primaries::parts_at-loop-init t c =
    let sub = layer c.args.total c.args.below (reading.below c.args.total c.args.below) in
    let h = one_height (view c.args.first.expression.value) (views c.in_ok-all.all.parts.items) c.in_ok-all.ensures.parts in
    let k : c.in_ok-all.all.height ≡ c.args.first.height = c.in_ok-all.ensures.height in
    record {
      same = parts_start sub (view c.args.first.expression.value) (views c.in_ok-all.all.parts.items) _ c.args.tokens.now (omega arith) c.in_ok-all.ensures.parts;
      measured = (omega (arith, h, k, c.requires.height.0), omega (arith, k, c.requires.height.1), omega (arith, k, c.requires.height.2));
    }

pub primaries::parts_at-returns-in-Some-clause-gives : goal.primaries::parts_at-returns-in-Some-clause-gives
primaries::parts_at-returns-in-Some-clause-gives t c =
    let sub = layer c.args.total c.args.below (reading.below c.args.total c.args.below) in
    sym c.loop.invariant.same ∙ parts_done sub (length c.args.tokens.now - c.loop.counter) (length c.args.tokens.now - (c.loop.counter + 1)) c.loop.rest.now (omega arith) (views c.loop.all.parts.items) _ c.in-Some.ensures

pub primaries::parts_at-returns-in_err-behind-clause-gives : goal.primaries::parts_at-returns-in_err-behind-clause-gives
primaries::parts_at-returns-in_err-behind-clause-gives t c =
    let sub = layer c.args.total c.args.below (reading.below c.args.total c.args.below) in
    let p = err_from_is_err_and c.from_residual-in_err-behind.result c.from_residual-in_err-behind.ensures.1 in
    rw (p.1, p.2) (fails_same _ _ _ c.loop.invariant.same
    (parts_lack sub (length c.args.tokens.now - c.loop.counter) (length c.args.tokens.now - (c.loop.counter + 1)) c.loop.rest.now (omega arith) (views c.loop.all.parts.items) _ c.in_default.ensures c.in_err-behind.ensures))

pub primaries::parts_at-returns-in_err-part-clause-gives : goal.primaries::parts_at-returns-in_err-part-clause-gives
primaries::parts_at-returns-in_err-part-clause-gives t c =
    let sub = layer c.args.total c.args.below (reading.below c.args.total c.args.below) in
    let p = err_from_is_err_and c.from_residual-in_err-part.result c.from_residual-in_err-part.ensures.1 in
    rw (p.1, p.2) (fails_same _ _ _ c.loop.invariant.same
    (parts_fail sub (length c.args.tokens.now - c.loop.counter) (length c.args.tokens.now - (c.loop.counter + 1)) c.loop.rest.now (omega arith) (views c.loop.all.parts.items) _ c.in_ok-behind.behind.now c.in_default.ensures c.in_ok-behind.ensures c.in_err-part.ensures.gives))

pub primaries::parts_at-loop-preserved : goal.primaries::parts_at-loop-preserved
primaries::parts_at-loop-preserved t c =
    let sub = layer c.args.total c.args.below (reading.below c.args.total c.args.below) in
    let h = ap trees_height c.in_ok-all-2.ensures.parts ∙ last_height (views c.loop.all.parts.items) (view c.in_ok-part.part.expression.value) in
    let k : c.in_ok-all-2.all.height ≡ max c.loop.all.height c.in_ok-part.part.height = c.in_ok-all-2.ensures.height in
    record {
      same = parts_more sub (length c.args.tokens.now - c.loop.counter) (length c.args.tokens.now - (c.loop.counter + 1)) c.loop.rest.now (omega arith)
          (views c.loop.all.parts.items) (views c.in_ok-all-2.all.parts.items) (view c.in_ok-part.part.expression.value) c.in_ok-behind.behind.now c.in_ok-part.others.now
          c.in_ok-all-2.ensures.parts c.in_default.ensures c.in_ok-behind.ensures c.in_ok-part.ensures.gives ∙ c.loop.invariant.same;
      measured = (omega (arith, h, k, c.loop.invariant.measured.0, c.in_ok-part.ensures.height.0), omega (arith, k, c.loop.invariant.measured.1), omega (arith, k, c.loop.invariant.measured.2, c.in_ok-part.ensures.height.2));
    }

pub primaries::parts_at-returns-clause-gives : goal.primaries::parts_at-returns-clause-gives
primaries::parts_at-returns-clause-gives t c =
    let sub = layer c.args.total c.args.below (reading.below c.args.total c.args.below) in
    rw c.syntax_error.ensures (sym c.loop.invariant.same ∙ parts_empty sub (length c.args.tokens.now - c.loop.counter) c.loop.rest.now (views c.loop.all.parts.items) (omega arith))
