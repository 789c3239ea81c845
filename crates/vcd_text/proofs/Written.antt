-- What is written for the lines of a run, line by line.
use Rattle.std.specs.Prelude.{ℕ, List, [], ◌∷◌, ◌++◌, refl}
use Rattle.std.proofs.Common.{ap, ◌∙◌, inl, inr}
use Rattle.vcd_text.specs.Text.{lines_of_change, change_lines}
use Rattle.vcd_text.specs.TracedLines.{Traced_lines_become_changes}

pub lines_become_changes : Traced_lines_become_changes
lines_become_changes flat last [] written is = ([], refl, is)
lines_become_changes flat last (text ∷ texts) written (lines, next, more, inl (change, tells, lines_are, next_is), rest, is) =
    let others = lines_become_changes flat next texts more rest in (
      change ∷ others.0,
      inl (change, others.0, tells, refl, others.1),
      is ∙ (ap (λ (front : List (List ℕ)). front ++ more) lines_are
          ∙ ap (λ (back : List (List ℕ)). lines_of_change last change ++ back) (others.2 ∙ ap (λ (time : ℕ). change_lines time others.0) next_is)),
    )
lines_become_changes flat last (text ∷ texts) written (lines, next, more, inr (none, lines_are, next_is), rest, is) =
    let others = lines_become_changes flat next texts more rest in (
      others.0,
      inr (none, others.1),
      is ∙ (ap (λ (front : List (List ℕ)). front ++ more) lines_are ∙ (others.2 ∙ ap (λ (time : ℕ). change_lines time others.0) next_is)),
    )
