-- What is found in an expression that has to be a constant.
use Rattle.std.proofs.Common.{ℕ, ap, ◌∙◌, Ok, Err}
use Rattle.v_flat.specs.Scope.Scope.{means}
use Rattle.v_syntax.specs.ExpressionTrees.{view}
use Rattle.v_flat.specs.Checks.{known}
use Rattle.v_check.proofs.ConstantsLemmas.Values.{asked_ends, asked_sound, is_asked, value_known, value_lost}
use Rattle.v_check.proofs.constants.value.valued.Goals as goal

pub evaluated-requires-clause-sound : goal.evaluated-requires-clause-sound
evaluated-requires-clause-sound c =
    let s = means c.args.scope.now in
    let e = view c.args.expression.now in
    asked_sound s e c.in-Ok.checked (is_asked s e c.args.found c.in-Ok.checked c.requires.found
    (asked_ends s e c.args.found c.needs.result c.is_made-made.result c.first-place.result c.ended.result (Ok c.in-Ok.checked) c.needs.ensures c.is_made-made.ensures c.first-place.ensures
    c.ended.ensures c.in-Ok.is))

pub returns-in_ok-evaluated-in-Ok : goal.returns-in_ok-evaluated-in-Ok
returns-in_ok-evaluated-in-Ok c =
    let s = means c.args.scope.now in
    let e = view c.args.expression.now in
    let ds = c.in_ok-evaluated-in-Ok.field-0 in
    c.known.ensures ∙ ap (λ (p : ℕ). known p ds) c.first-place.ensures
    ∙ value_known s e c.in-Ok.checked c.args.least ds (is_asked s e c.args.found c.in-Ok.checked c.requires.found
    (asked_ends s e c.args.found c.needs.result c.is_made-made.result c.first-place.result c.ended.result (Ok c.in-Ok.checked) c.needs.ensures c.is_made-made.ensures c.first-place.ensures
    c.ended.ensures c.in-Ok.is)) c.in_ok-evaluated-in-Ok.ensures

pub returns-in-Err : goal.returns-in-Err
returns-in-Err c =
    let s = means c.args.scope.now in
    let e = view c.args.expression.now in
    value_lost s e c.args.found c.args.least c.in-Err.fault c.requires.found
    (asked_ends s e c.args.found c.needs.result c.is_made-made.result c.first-place.result c.ended.result (Err c.in-Err.fault) c.needs.ensures c.is_made-made.ensures c.first-place.ensures
    c.ended.ensures c.in-Err.is)
