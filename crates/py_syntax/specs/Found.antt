-- A means of proof: the pieces that are found from place to place.
use Rattle.std.specs.Prelude.{◌≡◌, ℕ, ◌<◌, List, [], ◌∷◌, length, drop}
use Rattle.py_syntax.specs.Pieces.{piece_at}
use Rattle.py_syntax.specs.Places.{Place, context_of, place_after}
use Rattle.py_syntax.specs.declared.piece.Piece.{Piece}

-- From this place on the text is made of these pieces: each is the one that stands there.
abbrev pub IsMadeOf : Place → List ℕ → List Piece → Type 0
IsMadeOf a text [] = text ≡ []
IsMadeOf a text (p ∷ ps) =
    (0 < length text) × ((piece_at (context_of a) text).0 ≡ p) × IsMadeOf (place_after a p) (drop (piece_at (context_of a) text).1 text) ps
