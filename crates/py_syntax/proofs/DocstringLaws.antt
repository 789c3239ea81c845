-- A docstring that stands at the front of a text is the one that is found.
use Rattle.std.proofs.Common.{◌≡◌, ℕ, Bool, true, false, ◌==◌, ◌&&◌, List, [], ◌∷◌, ◌++◌, length, take, drop, Some, refl, sym, ap, subst, ◌∙◌, arith, append_assoc, length-append}
use Rattle.std.proofs.Math.Seq.{take-append_seam, drop-append_seam}
use Rattle.std.proofs.lemmas.List.{append-nil}
use Rattle.std.specs.Prelude.{slice_index}
use Rattle.py_syntax.specs.Bytes.{is_quote, line_feeds}
use Rattle.py_syntax.specs.Pieces.{docstring_piece, docstring_of}
use Rattle.py_syntax.specs.Items.{Item, plain, escaped, bytes_of, AreInText, AreInDocstring}
use Rattle.py_syntax.specs.Standing.{IsDocstring, StaysOpen, is_line_empty}
use Rattle.py_syntax.specs.Standing as standing
use Rattle.py_syntax.specs.declared.piece.Piece.{Piece}
use Rattle.py_syntax.specs.declared.piece.Piece.TheVariants as piece
use Rattle.py_syntax.proofs.Tests.{equal, not_true, to_false}
use Rattle.py_syntax.proofs.QuoteLaws.{text_closed, closes, stays_endless}

docstring_here : (text bytes rest : List ℕ) (n : ℕ) → text ≡ bytes ++ rest → length bytes ≡ n → is_line_empty rest ≡ true → docstring_of text n ≡ Some (piece.Docstring (line_feeds bytes), length bytes)
unfolding docstring_of
docstring_here text bytes rest n e k empty =
    let left : drop n text ≡ rest = ap (λ (i : ℕ). drop i text) (sym k) ∙ ap (λ (t : List ℕ). drop (length bytes) t) e ∙ drop-append_seam bytes rest in
    let front : take n text ≡ bytes = ap (λ (i : ℕ). take i text) (sym k) ∙ ap (λ (t : List ℕ). take (length bytes) t) e ∙ take-append_seam bytes rest in
    rw (left, front, empty, k) refl

-- no line is empty that begins with a quote
no_quote_first : (bs : List ℕ) → is_line_empty bs ≡ true → (slice_index bs 0 == 34) ≡ false
unfolding is_line_empty
no_quote_first [] e = refl
no_quote_first (b ∷ bs) e = to_false (b == 34) (λ f. let q : b ≡ 34 = equal b 34 f in not_true (is_line_empty (34 ∷ bs)) refl (rw q at e))

not_three : (quote : ℕ) (items : List Item) (rest : List ℕ) → is_quote quote ≡ true → AreInText quote items → is_line_empty rest ≡ true
    → ((quote == 34) && (slice_index (quote ∷ (bytes_of items ++ quote ∷ rest)) 1 == 34) && (slice_index (quote ∷ (bytes_of items ++ quote ∷ rest)) 2 == 34)) ≡ false
not_three quote [] rest h k e = go ((quote == 34) && (quote == 34)) (slice_index rest 0 == 34) (no_quote_first rest e)
  where
    go : (x y : Bool) → y ≡ false → (x && y) ≡ false
    go true y f = f
    go false y f = refl
not_three quote (plain b ∷ items) rest h k e = go (quote == 34) (b == 34) (slice_index (quote ∷ b ∷ (bytes_of items ++ quote ∷ rest)) 2 == 34) refl refl
  where
    go : (x y z : Bool) → (quote == 34) ≡ x → (b == 34) ≡ y → (x && y && z) ≡ false
    go false y z p q = refl
    go true false z p q = refl
    go true true z p q = let f : b ≡ 34 = equal b 34 q in let g : quote ≡ 34 = equal quote 34 p in absurd (k.2 (f ∙ sym g))
not_three quote (escaped b ∷ items) rest h k e = go (quote == 34) (slice_index (quote ∷ 92 ∷ b ∷ (bytes_of items ++ quote ∷ rest)) 2 == 34)
  where
    go : (x z : Bool) → (x && false && z) ≡ false
    go true z = refl
    go false z = refl

short_found : (quote : ℕ) (items : List Item) (rest : List ℕ) → is_quote quote ≡ true → AreInText quote items → is_line_empty rest ≡ true
    → docstring_piece (quote ∷ (bytes_of items ++ quote ∷ rest)) ≡ Some (piece.Docstring (line_feeds (quote ∷ (bytes_of items ++ quote ∷ []))), length (quote ∷ (bytes_of items ++ quote ∷ [])))
unfolding docstring_piece
short_found quote items rest h k e =
    rw (not_three quote items rest h k e, text_closed quote items rest h k)
    (docstring_here _ (quote ∷ (bytes_of items ++ quote ∷ [])) rest _ (ap (λ (xs : List ℕ). quote ∷ xs) (sym (append_assoc (bytes_of items) (quote ∷ []) rest))) (simp length-append (omega arith)) e)

long_found : (items : List Item) (rest : List ℕ) → AreInDocstring items → is_line_empty rest ≡ true
    → docstring_piece (34 ∷ 34 ∷ 34 ∷ (bytes_of items ++ 34 ∷ 34 ∷ 34 ∷ rest)) ≡ Some (piece.Docstring (line_feeds (34 ∷ 34 ∷ 34 ∷ (bytes_of items ++ 34 ∷ 34 ∷ 34 ∷ []))), length (34 ∷ 34 ∷ 34 ∷ (bytes_of items ++ 34 ∷ 34 ∷ 34 ∷ [])))
unfolding docstring_piece
long_found items rest k e =
    rw (closes rest 0 items (omega arith) k tt)
    (docstring_here _ (34 ∷ 34 ∷ 34 ∷ (bytes_of items ++ 34 ∷ 34 ∷ 34 ∷ [])) rest _ (ap (λ (xs : List ℕ). 34 ∷ 34 ∷ 34 ∷ xs) (sym (append_assoc (bytes_of items) (34 ∷ 34 ∷ 34 ∷ []) rest))) (simp length-append (omega arith)) e)

endless_found : (body : List ℕ) → StaysOpen body → docstring_piece (34 ∷ 34 ∷ 34 ∷ body) ≡ Some (piece.OpenDocstring, length (34 ∷ 34 ∷ 34 ∷ body))
unfolding docstring_piece
endless_found body h = rw (stays_endless body h) refl

-- a docstring that stands at the front is the one that is found
abbrev pub FindsDocstrings : List ℕ → Type 0
FindsDocstrings text = (p : Piece) (bytes rest : List ℕ) → text ≡ bytes ++ rest → IsDocstring p bytes rest → docstring_piece text ≡ Some (p, length bytes)

found_by : (text other bytes : List ℕ) (p q : Piece) → text ≡ other → p ≡ q → docstring_piece other ≡ Some (q, length bytes) → docstring_piece text ≡ Some (p, length bytes)
found_by text other bytes p q e f h = ap docstring_piece e ∙ h ∙ ap (λ (x : Piece). Some (x, length bytes)) (sym f)

pub finds_docstring : (text : List ℕ) → FindsDocstrings text
finds_docstring text p bytes rest split (standing.short quote items h k e empty f) =
    subst (λ (xs : List ℕ). text ≡ xs ++ rest → p ≡ piece.Docstring (line_feeds xs) → docstring_piece text ≡ Some (p, length xs)) (sym e)
    (λ s g. found_by text _ (quote ∷ (bytes_of items ++ quote ∷ [])) p _ (s ∙ ap (λ (xs : List ℕ). quote ∷ xs) (append_assoc (bytes_of items) (quote ∷ []) rest)) g (short_found quote items rest h k empty)) split f
finds_docstring text p bytes rest split (standing.long items k e empty f) =
    subst (λ (xs : List ℕ). text ≡ xs ++ rest → p ≡ piece.Docstring (line_feeds xs) → docstring_piece text ≡ Some (p, length xs)) (sym e)
    (λ s g. found_by text _ (34 ∷ 34 ∷ 34 ∷ (bytes_of items ++ 34 ∷ 34 ∷ 34 ∷ [])) p _ (s ∙ ap (λ (xs : List ℕ). 34 ∷ 34 ∷ 34 ∷ xs) (append_assoc (bytes_of items) (34 ∷ 34 ∷ 34 ∷ []) rest)) g (long_found items rest k empty)) split f
finds_docstring text p bytes rest split (standing.endless body h e nothing f) =
    subst (λ (xs : List ℕ). text ≡ xs ++ rest → docstring_piece text ≡ Some (p, length xs)) (sym e)
    (λ s. found_by text (34 ∷ 34 ∷ 34 ∷ body) (34 ∷ 34 ∷ 34 ∷ body) p _ (s ∙ ap (λ (xs : List ℕ). (34 ∷ 34 ∷ 34 ∷ body) ++ xs) nothing ∙ append-nil (34 ∷ 34 ∷ 34 ∷ body)) f (endless_found body h)) split
