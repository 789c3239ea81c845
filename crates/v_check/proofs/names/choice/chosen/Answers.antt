-- What a select chooses.
use Rattle.std.proofs.Common.{◌≡◌, ◌∙◌, sym, ap, subst, List, ℕ}
use Rattle.four_value.specs.declared.Digit.{Digit}
use Rattle.gpi.specs.declared.terms.Term.{Term}
use Rattle.v_flat.specs.declared.scope.found.Found.{Found}
use Rattle.v_flat.specs.Scope.Found.{and_then, both, followed, each}
use Rattle.v_flat.specs.Checks.{narrow}
use Rattle.v_check.specs.declared.names.choice.Choice.{Choice}
use Rattle.v_check.specs.declared.names.selects.CheckedSelect.{CheckedSelect}
use Rattle.v_check.specs.Names.Made.{choice_from, pair_choice, range_choice}
use Rattle.v_check.specs.Names.Selects.{IsChosen}
use Rattle.v_check.proofs.NamesLemmas.Choices.{chosen}
use Rattle.v_check.proofs.names.choice.chosen.Goals as goal

pub returns-in-Bit-clause-checks : goal.returns-in-Bit-clause-checks
returns-in-Bit-clause-checks c = λ fixed s sel h.
    let p = c.args.place in
    let b = c.args.bounds in
    subst (λ (f : Found Choice). IsChosen fixed s p b sel f) (ap (λ (x : CheckedSelect). choice_from p b x) c.in-Bit.is ∙ sym c.bit.ensures)
    (chosen fixed s p b sel c.args.select h)

pub returns-in-Part-clause-checks : goal.returns-in-Part-clause-checks
returns-in-Part-clause-checks c = λ fixed s sel h.
    let p = c.args.place in
    let b = c.args.bounds in
    let q = c.in-Part.at in
    let made : c.found_part.result ≡ and_then (both c.in-Part.left c.in-Part.right) (λ z. range_choice q p b z.0 z.1) =
    c.found_part.ensures ∙ ap (λ (y : Found (List Digit × List Digit)). and_then y (λ z. range_choice q p b z.0 z.1)) c.both.ensures in
    subst (λ (f : Found Choice). IsChosen fixed s p b sel f) (ap (λ (x : CheckedSelect). choice_from p b x) c.in-Part.is ∙ sym made)
    (chosen fixed s p b sel c.args.select h)

pub returns-in-IndexedPart-clause-checks : goal.returns-in-IndexedPart-clause-checks
returns-in-IndexedPart-clause-checks c = λ fixed s sel h.
    let p = c.args.place in
    let b = c.args.bounds in
    let made : c.paired.result ≡ each pair_choice (followed c.in-IndexedPart.base (and_then c.in-IndexedPart.width (narrow p))) =
    c.paired.ensures ∙ ap (λ (y : Found (Term × ℕ)). each pair_choice y)
    (c.followed_by.ensures ∙ ap (λ (w : Found ℕ). followed c.in-IndexedPart.base w) c.narrowed.ensures) in
    subst (λ (f : Found Choice). IsChosen fixed s p b sel f) (ap (λ (x : CheckedSelect). choice_from p b x) c.in-IndexedPart.is ∙ sym made)
    (chosen fixed s p b sel c.args.select h)
