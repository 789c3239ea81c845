-- A text is spelled by one list of pieces alone.
use Rattle.std.proofs.Common.{◌≡◌, ℕ, List, [], ◌∷◌, length, drop, refl, sym, subst, ap, ◌∙◌, arith}
use Rattle.py_syntax.specs.Pieces.{piece_at}
use Rattle.py_syntax.specs.Places.{Place, place_after, context_of}
use Rattle.py_syntax.specs.Found.{IsMadeOf}
use Rattle.py_syntax.specs.Spelled.{IsSpelled}
use Rattle.py_syntax.specs.declared.piece.Piece.{Piece}
use Rattle.py_syntax.proofs.Finds.{found}

made_once : (a : Place) (text : List ℕ) (ps qs : List Piece) → IsMadeOf a text ps → IsMadeOf a text qs → ps ≡ qs
made_once a text [] [] m n = refl
made_once a text [] (q ∷ qs) m n = absurd (omega (arith, ap length m, n.0))
made_once a text (p ∷ ps) [] m n = absurd (omega (arith, ap length n, m.0))
made_once a text (p ∷ ps) (q ∷ qs) m n =
    let e : q ≡ p = sym n.1 ∙ m.1 in
    let k : IsMadeOf (place_after a p) (drop (piece_at (context_of a) text).1 text) qs = subst (λ (x : Piece). IsMadeOf (place_after a x) (drop (piece_at (context_of a) text).1 text) qs) e n.2 in
    let ih : ps ≡ qs = made_once (place_after a p) (drop (piece_at (context_of a) text).1 text) ps qs m.2 k in
    cc

-- No text is spelled by two lists of pieces.
pub spelled_once : (a : Place) (text : List ℕ) (ps qs : List Piece) → IsSpelled a ps text → IsSpelled a qs text → ps ≡ qs
spelled_once a text ps qs m n = made_once a text ps qs (found a ps text m) (found a qs text n)
