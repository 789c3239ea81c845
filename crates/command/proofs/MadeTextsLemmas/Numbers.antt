-- A list of numbers that grows by one.
use Rattle.std.specs.Prelude.{◌≡◌, ℕ, zero, suc, ◌+◌, ◌<◌, List, ◌++◌, flat_map, codes, decimal}
use Rattle.std.specs.List.{range_with_len}
use Rattle.std.proofs.Common.{arith, ap, sym, ◌∙◌, append_assoc, append-nil}
use Rattle.command.specs.MadeTexts.Texts.{numbers_to}

-- what a function makes of one number more stands behind what it makes of those before
flat_more : (f : ℕ → List ℕ) (first count : ℕ)
    → flat_map f (range_with_len first (suc count)) ≡ flat_map f (range_with_len first count) ++ f (first + count)
flat_more f first zero = append-nil (f first) ∙ ap f (omega arith)
flat_more f first (suc count) =
    let same : (first + 1) + count ≡ first + suc count = omega arith in
    ap (λ (rest : List ℕ). f first ++ rest) (flat_more f (first + 1) count)
    ∙ sym (append_assoc (f first) (flat_map f (range_with_len (first + 1) count)) (f ((first + 1) + count)))
    ∙ ap (λ (number : ℕ). (f first ++ flat_map f (range_with_len (first + 1) count)) ++ f number) same

-- one number more, behind a comma
pub next_number : (last number : ℕ) → 0 < last → last + 1 ≡ number → numbers_to last ++ (codes ", " ++ decimal number) ≡ numbers_to number
next_number zero number some is = absurd (omega arith)
next_number (suc count) number some is =
    let after : ℕ → List ℕ = λ k. codes ", " ++ decimal k in
    let behind : 2 + count ≡ number = omega arith in
    let all : suc (suc count) ≡ number = omega arith in
    append_assoc (decimal 1) (flat_map after (range_with_len 2 count)) (after number)
    ∙ ap (λ (rest : List ℕ). decimal 1 ++ rest) (ap (λ (k : ℕ). flat_map after (range_with_len 2 count) ++ after k) (sym behind) ∙ sym (flat_more after 2 count))
    ∙ ap numbers_to all
