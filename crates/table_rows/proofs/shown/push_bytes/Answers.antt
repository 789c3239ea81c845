use Rattle.std.proofs.Common.{◌∙◌, ◌++◌, ap, drop, List, ℕ}
use Rattle.table_rows.specs.Shown.{latin}
use Rattle.table_rows.proofs.Fronts.{front_shown, on_err}
use Rattle.table_rows.proofs.shown.push_bytes.Goals as goal

-- the text is as it was before the byte that had no room
pub returns-in_err-push-clause-err : goal.returns-in_err-push-clause-err
returns-in_err-push-clause-err c = on_err _ (front_shown _ _ c.args.bytes.now c.loop-byte.byte-index
    (ap (λ (text : List ℕ). text ++ latin (drop c.loop-byte.byte-index c.args.bytes.now)) c.in_err-push.ensures.bytes ∙ c.loop-byte.invariant))
