-- A means of proof: the last line of those so far.
use Rattle.std.specs.Prelude.{ℕ, List, [], ◌∷◌, if◌then◌else◌}
use Rattle.py_syntax.specs.Outline.{Placed}
use Rattle.test_meaning.specs.Rules.Rules.{is_code}

-- the number of the last of these lines that is no docstring, or else this one
abbrev pub number_behind : ℕ → List Placed → ℕ
number_behind n [] = n
number_behind n (p ∷ ps) = number_behind (if is_code p.content then p.number else n) ps
