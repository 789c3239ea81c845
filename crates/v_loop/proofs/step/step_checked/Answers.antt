-- What the code asks of a step.
use Rattle.std.proofs.Common.{Err, sym}
use Rattle.v_flat.specs.Scope.Scope.{means}
use Rattle.v_syntax.specs.ExpressionTrees.{view}
use Rattle.v_check.proofs.ConstantsLemmas.Values.{asked_ends}
use Rattle.v_loop.proofs.Asked.{step_lost}
use Rattle.v_loop.proofs.step.step_checked.Goals as goal

pub returns-in-Err : goal.returns-in-Err
returns-in-Err c =
    let s = means c.args.scope.now in
    let e = view c.args.step.now in
    let f = c.in_ok-found.found in
    sym (step_lost s e f c.in-Err.fault c.in_ok-found.ensures
    (asked_ends s e f c.needs.result c.is_made-made.result c.first-place.result c.ended.result (Err c.in-Err.fault) c.needs.ensures c.is_made-made.ensures c.first-place.ensures
    c.ended.ensures c.in-Err.is))
