-- A means of proof: concatenations of many parts (IEEE 1364-2005, clause 5.1.14), the lowest part first, for the proofs of elaboration.
use Rattle.std.specs.Prelude.{ℕ, ◌+◌, ◌≤◌, List, [], ◌∷◌, ◌++◌}
use Rattle.four_value.specs.declared.Digit.{Digit}
use Rattle.four_value.specs.Limits.{most_digits}
use Rattle.gpi.specs.declared.terms.Term.{Term}
use Rattle.gpi.specs.Terms.{value, width, IsSound}
use Rattle.gpi.specs.Made.{Makes}

-- the digits of all, from the lowest on
abbrev pub values : List Term → (ℕ → List Digit) → List Digit
values [] m = []
values (t ∷ ts) m = value t m ++ values ts m

abbrev pub widths : List Term → ℕ
widths [] = 0
widths (t ∷ ts) = width t + widths ts

abbrev pub AreSound : List Term → List ℕ → Type 0
AreSound [] ws = Unit {0}
AreSound (t ∷ ts) ws = IsSound t ws × AreSound ts ws

-- t is the concatenation of these
abbrev pub MakesConcatenation : List Term → Term → Type 0
MakesConcatenation ts t = Makes t (values ts) (widths ts) (λ ws. AreSound ts ws × (widths ts ≤ most_digits))
