use Rattle.std.proofs.Common.{◌∙◌, Err, ap, ℕ, List}
use Rattle.design_tests.specs.Elaboration.Rows.{named}
use Rattle.design_tests.proofs.ElaborationLemmas.RowLaws.{row_shown}
use Rattle.design_tests.proofs.elaboration.rows.row_text.Goals as goal

pub returns : goal.returns
returns g c =
    row_shown (λ text. text.items) c.args.row.now _ _ _ (Err c.in-Err.refusal) c.refusal_text.result c.in-Err.is
    (c.deref.ensures.value ∙ c.in_ok-text.ensures)
    (c.named.ensures ∙ ap (λ (name : List ℕ). named name) (c.deref-2.ensures ∙ c.in_ok-name.ensures))
    c.in_ok-flat.ensures c.refusal_text.ensures
