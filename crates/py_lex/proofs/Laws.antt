-- What a scan has gathered is what the definitions say of its pieces.
use Rattle.std.proofs.Common.{◌≡◌, Bool, true, false, List, [], ◌∷◌, ◌++◌, fold, find, Option, None, Some, cond, refl, sym, ap, ◌∙◌, append_assoc, append-nil}
use Rattle.std.specs.Prelude.{if◌then◌else◌, slice_get}
use Rattle.std.specs.List.{filter_map, flat_map, cons_option}
use Rattle.std.specs.Option.{option_map, option_to_list}
use Rattle.py_syntax.specs.Line.{Line, physical_line}
use Rattle.py_syntax.specs.Places.{Place, first_place, place_after, is_token}
use Rattle.py_syntax.specs.Logical.{Placed, placed_from, place_behind, groups, into_first, ends_line, has_token, line_of, line_from, lines_of, tokens_of, is_docstring, broken_by, broken_at_end, broken_rules, first_broken, first_dedent, open_format, open_line, earlier}
use Rattle.py_syntax.specs.declared.token.Token.{Token}
use Rattle.py_syntax.specs.declared.piece.Piece.{Piece}
use Rattle.py_syntax.specs.declared.piece.Broken.{Broken}
use Rattle.py_lex.specs.declared.gather.Start.{Start}
use Rattle.py_lex.specs.Scan.{Gathered, State, step, first_state, with_piece, nothing_gathered, gathered_after, gathered_line, line_with, start_after, lines_in, broken_in, ends_here}
use Rattle.py_lex.proofs.Reading.{fold-append, step-place}

fold_place : (s : State) (ps : List Piece) → (fold step s ps).place ≡ place_behind s.place ps
unfolding place_behind
fold_place s [] = refl
fold_place s (p ∷ ps) = fold_place (step s p) ps ∙ ap (λ (a : Place). place_behind a ps) (step-place s p)

-- The first broken rule.

fold_option : (a : Option Broken) (x : Option Broken) (xs : List Broken) → fold earlier (fold earlier a (option_to_list x)) xs ≡ fold earlier a (cons_option x xs)
fold_option a None xs = refl
fold_option a (Some b) xs = refl

step-broken : (s : State) (p : Piece) → (step s p).broken ≡ fold earlier s.broken (option_to_list (broken_by (record { place = s.place; piece = p })))
unfolding step
step-broken s p = refl

fold_broken : (s : State) (ps : List Piece) → (fold step s ps).broken ≡ fold earlier s.broken (filter_map broken_by (placed_from s.place ps))
unfolding placed_from
fold_broken s [] = refl
fold_broken s (p ∷ ps) =
    fold_broken (step s p) ps
    ∙ ap (λ (a : Place). fold earlier (step s p).broken (filter_map broken_by (placed_from a ps))) (step-place s p)
    ∙ ap (λ (o : Option Broken). fold earlier o (filter_map broken_by (placed_from (place_after s.place p) ps))) (step-broken s p)
    ∙ fold_option s.broken (broken_by (record { place = s.place; piece = p })) _

-- The lines.

start_of : Placed → Start
start_of x = record { indentation = x.place.spaces; number = physical_line x.place.line; is_docstring = is_docstring x.piece }

tokens_at : Placed → List Token
tokens_at x = tokens_of x.piece

-- what is gathered of these pieces
record Sums (xs : List Placed) (g : Gathered) : Type 0 where
  start : g.start ≡ option_map start_of (find has_token xs)
  tokens : g.tokens ≡ flat_map (λ y. tokens_of y.piece) xs

sums_none : Sums [] nothing_gathered
sums_none = record { start = refl; tokens = refl }

start_more : (x : Placed) (xs : List Placed) → start_after (option_map start_of (find has_token xs)) x.place.spaces x.place.line x.piece ≡ option_map start_of (find has_token (xs ++ x ∷ []))
unfolding start_of
start_more x [] = go (is_token x.piece)
  where
    go : (b : Bool) → (if b then Some (start_of x) else None) ≡ option_map start_of (cond b (Some x) None)
    go true = refl
    go false = refl
start_more x (y ∷ ys) = go (has_token y) (start_more x ys)
  where
    go : (b : Bool) → start_after (option_map start_of (find has_token ys)) x.place.spaces x.place.line x.piece ≡ option_map start_of (find has_token (ys ++ x ∷ []))
        → start_after (option_map start_of (cond b (Some y) (find has_token ys))) x.place.spaces x.place.line x.piece ≡ option_map start_of (cond b (Some y) (find has_token (ys ++ x ∷ [])))
    go true e = refl
    go false e = e

tokens_more : (x : Placed) (xs : List Placed) → flat_map (λ y. tokens_of y.piece) (xs ++ x ∷ []) ≡ flat_map (λ y. tokens_of y.piece) xs ++ tokens_of x.piece
tokens_more x [] = append-nil (tokens_of x.piece)
tokens_more x (y ∷ ys) =
    ap (λ (ts : List Token). tokens_of y.piece ++ ts) (tokens_more x ys) ∙ sym (append_assoc (tokens_of y.piece) (flat_map (λ z. tokens_of z.piece) ys) (tokens_of x.piece))

sums_more : (x : Placed) (xs : List Placed) (g : Gathered) → Sums xs g → Sums (xs ++ x ∷ []) (gathered_after g x.place.spaces x.place.line x.piece)
sums_more x xs g h = record {
  start = ap (λ (o : Option Start). start_after o x.place.spaces x.place.line x.piece) h.start ∙ start_more x xs;
  tokens = ap (λ (ts : List Token). ts ++ tokens_of x.piece) h.tokens ∙ sym (tokens_more x xs);
}

line_starts : (xs : List Placed) (o : Option Placed) → option_map (line_with (flat_map (λ y. tokens_of y.piece) xs)) (option_map start_of o) ≡ line_from xs o
unfolding start_of
line_starts xs None = refl
line_starts xs (Some x) = refl

sums_line : (xs : List Placed) (g : Gathered) → Sums xs g → gathered_line g ≡ line_of xs
unfolding line_of
sums_line xs g h =
    ap (λ (o : Option Start). option_map (line_with g.tokens) o) h.start
    ∙ ap (λ (ts : List Token). option_map (line_with ts) (option_map start_of (find has_token xs))) h.tokens
    ∙ line_starts xs (find has_token xs)

-- groups of pieces, with pieces that stand before them
prepend : List Placed → List (List Placed) → List (List Placed)
prepend xs [] = xs ∷ []
prepend xs (g ∷ gs) = (xs ++ g) ∷ gs

prepend_none : (xs : List Placed) → prepend [] (groups xs) ≡ groups xs
unfolding prepend groups
prepend_none [] = refl
prepend_none (x ∷ xs) = go (ends_line x) (groups xs)
  where
    go : (b : Bool) (gs : List (List Placed)) → prepend [] (if b then (x ∷ []) ∷ gs else into_first x gs) ≡ (if b then (x ∷ []) ∷ gs else into_first x gs)
    go true gs = refl
    go false [] = refl
    go false (g ∷ gs) = refl

prepend_first : (xs : List Placed) (x : Placed) (gs : List (List Placed)) → prepend (xs ++ x ∷ []) gs ≡ prepend xs (into_first x gs)
unfolding prepend
prepend_first xs x [] = refl
prepend_first xs x (g ∷ gs) = ap (λ (h : List Placed). h ∷ gs) (append_assoc xs (x ∷ []) g)

one_line : (ls : List Line) (o : Option Line) (more : List Line) → (ls ++ option_to_list o) ++ more ≡ ls ++ cons_option o more
one_line ls None more = ap (λ (xs : List Line). xs ++ more) (append-nil ls)
one_line ls (Some l) more = append_assoc ls (l ∷ []) more

option_line : (o : Option Line) → option_to_list o ≡ cons_option o []
option_line None = refl
option_line (Some l) = refl

-- what a scan has once it ended a line or not
step-lines : (s : State) (p : Piece) → (step s p).lines ≡ (if ends_here s p then s.lines ++ option_to_list (gathered_line (with_piece s p)) else s.lines)
unfolding step
step-lines s p = refl

step-gathered : (s : State) (p : Piece) → (step s p).gathered ≡ (if ends_here s p then nothing_gathered else with_piece s p)
unfolding step
step-gathered s p = refl

fold_lines : (s : State) (ps : List Piece) (xs : List Placed) → Sums xs s.gathered → lines_in (fold step s ps) ≡ s.lines ++ filter_map line_of (prepend xs (groups (placed_from s.place ps)))
unfolding placed_from groups prepend
fold_lines s [] xs h =
    ap (λ (ls : List Line). s.lines ++ ls) (option_line (gathered_line s.gathered) ∙ ap (λ (o : Option Line). cons_option o []) (sums_line xs s.gathered h ∙ ap line_of (sym (append-nil xs))))
fold_lines s (p ∷ ps) xs h = go (ends_here s p) (step s p) (step-place s p) (step-lines s p) (step-gathered s p) (λ ys k. fold_lines (step s p) ps ys k)
  where
    x : Placed
    x = record { place = s.place; piece = p }

    rest : List Placed
    rest = placed_from (place_after s.place p) ps

    go : (b : Bool) (t : State) → t.place ≡ place_after s.place p → t.lines ≡ (if b then s.lines ++ option_to_list (gathered_line (with_piece s p)) else s.lines)
        → t.gathered ≡ (if b then nothing_gathered else with_piece s p)
        → ((ys : List Placed) → Sums ys t.gathered → lines_in (fold step t ps) ≡ t.lines ++ filter_map line_of (prepend ys (groups (placed_from t.place ps))))
        → lines_in (fold step t ps) ≡ s.lines ++ filter_map line_of (prepend xs (if b then (x ∷ []) ∷ groups rest else into_first x (groups rest)))
    go true t e f g ih =
        ih [] (rw g sums_none)
        ∙ ap (λ (gs : List (List Placed)). t.lines ++ filter_map line_of gs) (ap (λ (a : Place). prepend [] (groups (placed_from a ps))) e ∙ prepend_none rest)
        ∙ ap (λ (ls : List Line). ls ++ filter_map line_of (groups rest)) (f ∙ ap (λ (o : Option Line). s.lines ++ option_to_list o) (sums_line (xs ++ x ∷ []) (with_piece s p) (sums_more x xs s.gathered h)))
        ∙ one_line s.lines (line_of (xs ++ x ∷ [])) (filter_map line_of (groups rest))
    go false t e f g ih =
        ih (xs ++ x ∷ []) (rw g (sums_more x xs s.gathered h))
        ∙ ap (λ (ls : List Line). ls ++ filter_map line_of (prepend (xs ++ x ∷ []) (groups (placed_from t.place ps)))) f
        ∙ ap (λ (gs : List (List Placed)). s.lines ++ filter_map line_of gs) (ap (λ (a : Place). prepend (xs ++ x ∷ []) (groups (placed_from a ps))) e ∙ prepend_first xs x (groups rest))

pub read_lines : (ps : List Piece) → lines_in (fold step first_state ps) ≡ lines_of ps
unfolding lines_of
read_lines ps = fold_lines first_state ps [] sums_none ∙ ap (λ (gs : List (List Placed)). filter_map line_of gs) (prepend_none (placed_from first_place ps))

pub read_broken : (ps : List Piece) → broken_in (fold step first_state ps) ≡ first_broken ps
unfolding broken_in first_broken broken_rules broken_at_end
read_broken ps =
    let s : State = fold step first_state ps in
    let broken : s.broken ≡ fold earlier None (filter_map broken_by (placed_from first_place ps)) = fold_broken first_state ps in
    let place : s.place ≡ place_behind first_place ps = fold_place first_state ps in
    let lines : lines_in s ≡ lines_of ps = read_lines ps in
    let a : List Broken = filter_map broken_by (placed_from first_place ps) in
    let rest : State → List Broken = λ t. (open_format t.place ++ open_line (slice_get t.place.open_brackets 0)) ++ first_dedent (0 ∷ []) (lines_in t) in
    let b : List Broken = (open_format (place_behind first_place ps) ++ open_line (slice_get (place_behind first_place ps).open_brackets 0)) ++ first_dedent (0 ∷ []) (lines_of ps) in
    let same : rest s ≡ b =
    ap (λ (q : Place). (open_format q ++ open_line (slice_get q.open_brackets 0)) ++ first_dedent (0 ∷ []) (lines_in s)) place
    ∙ ap (λ (ls : List Line). (open_format (place_behind first_place ps) ++ open_line (slice_get (place_behind first_place ps).open_brackets 0)) ++ first_dedent (0 ∷ []) ls) lines in
    ap (λ (o : Option Broken). fold earlier o (rest s)) broken
    ∙ ap (λ (bs : List Broken). fold earlier (fold earlier None a) bs) same
    ∙ sym (fold-append earlier None a b)
    ∙ ap (λ (bs : List Broken). fold earlier None bs) (sym (append_assoc a (open_format (place_behind first_place ps) ++ open_line (slice_get (place_behind first_place ps).open_brackets 0)) (first_dedent (0 ∷ []) (lines_of ps))))
