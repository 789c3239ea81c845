-- The pieces of a text spell it (the language reference, 2).
use Rattle.std.specs.Prelude.{◌≡◌, ℕ, List, [], ◌∷◌, ◌++◌}
use Rattle.py_syntax.specs.Places.{Place, context_of, place_after}
use Rattle.py_syntax.specs.Standing.{Stands}
use Rattle.py_syntax.specs.declared.piece.Piece.{Piece}

-- From this place on the text is spelled by these pieces, one behind the other.
abbrev pub IsSpelled : Place → List Piece → List ℕ → Type 0
IsSpelled a [] text = text ≡ []
IsSpelled a (p ∷ ps) text =
    (bytes : List ℕ) × (rest : List ℕ) × (text ≡ bytes ++ rest) × Stands (context_of a) p bytes rest × IsSpelled (place_after a p) ps rest
