-- A means of proof: the first digits of a text.
use Rattle.std.proofs.Common.{◌≡◌, ℕ, List, take, min, length, ap, ◌∙◌}
use Rattle.std.proofs.lemmas.List.{take_min}
use Rattle.four_value.specs.Limits.{most_digits}
use Rattle.four_value.specs.declared.Digit.{Digit}
use Rattle.design_tests.specs.Elaboration.Digits.{short_vector, vector_of}

-- the first digits of a text that may have fewer
pub first_digits : (text : List ℕ) (n : ℕ) → n ≡ min most_digits (length text) → take n text ≡ take most_digits text
first_digits text n e = ap (λ (k : ℕ). take k text) e ∙ take_min most_digits text

pub vector_short : (text front : List ℕ) (bits : List Digit) → bits ≡ short_vector front → front ≡ take most_digits text → bits ≡ vector_of text
vector_short text front bits is e = is ∙ ap (λ (bytes : List ℕ). short_vector bytes) e
