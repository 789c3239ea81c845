-- A scan, from piece to piece.
use Rattle.std.proofs.Common.{◌≡◌, ℕ, ◌<◌, ◌≤◌, ◌+◌, Bool, true, false, List, [], ◌∷◌, ◌++◌, length, drop, fold, refl, sym, subst, ap, ◌∙◌, arith, append_assoc}
use Rattle.py_syntax.specs.Pieces.{piece_at}
use Rattle.py_syntax.specs.Places.{place_after, context_of, spaces_after, line_ends}
use Rattle.py_syntax.specs.Found.{IsMadeOf}
use Rattle.py_syntax.specs.declared.piece.Piece.{Piece}
use Rattle.py_syntax.specs.declared.piece.Piece.TheVariants as piece
use Rattle.py_lex.specs.Scan.{State, step, first_state, HasRead}

pub fold-append : {A B : Type 0} (f : B → A → B) (a : B) (xs ys : List A) → fold f a (xs ++ ys) ≡ fold f (fold f a xs) ys
fold-append f a [] ys = refl
fold-append f a (x ∷ xs) ys = fold-append f (f a x) xs ys

pub read_none : (text : List ℕ) → HasRead text text first_state
read_none text = record { pieces = []; made = λ more m. m; state = refl }

pub step-place : (s : State) (p : Piece) → (step s p).place ≡ place_after s.place p
unfolding step
step-place s p = refl

pub read_more : (text rest : List ℕ) (s : State) (p : Piece) (n : ℕ) → 0 < length rest → (p, n) ≡ piece_at (context_of s.place) rest → HasRead text rest s → HasRead text (drop n rest) (step s p)
read_more text rest s p n some e h = record {
  pieces = h.pieces ++ p ∷ [];
  made = λ more m. rw append_assoc (h.made (p ∷ more) (some, sym (ap (λ (x : Piece × ℕ). x.0) e), next more m));
  state = ap (λ (t : State). step t p) h.state ∙ sym (fold-append step first_state h.pieces (p ∷ []));
}
  where
    next : (more : List Piece) → IsMadeOf (step s p).place (drop n rest) more → IsMadeOf (place_after s.place p) (drop (piece_at (context_of s.place) rest).1 rest) more
    next more m = rw (← e, ← step-place) m

pub spaces_bound : (front : Bool) (n : ℕ) (p : Piece) → spaces_after front n p ≤ n + 1
spaces_bound true n piece.Space = omega arith
spaces_bound false n piece.Space = omega arith
spaces_bound front n piece.LineEnd = omega arith
spaces_bound front n _ = omega arith

pub step-spaces : (s : State) (p : Piece) → (step s p).place.spaces ≤ s.place.spaces + 1
unfolding step place_after
step-spaces s p = spaces_bound s.place.at_front s.place.spaces p

pub step-line : (s : State) (p : Piece) → (step s p).place.line ≡ s.place.line + line_ends p
unfolding step place_after
step-line s p = refl

-- the whole text was read
pub read_all : (text rest : List ℕ) (s : State) → rest ≡ [] → HasRead text rest s → HasRead text [] s
read_all text rest s e h = subst (λ (r : List ℕ). HasRead text r s) e h
