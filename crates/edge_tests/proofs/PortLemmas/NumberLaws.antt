-- Numbers that are written one after the other.
use Rattle.std.proofs.Common.{◌≡◌, ℕ, suc, ◌+◌, List, [], ◌∷◌, ◌++◌, map, drop, drop-cons, Bor, Some, refl, ap, sym, ◌∙◌, append_assoc, add-one}
use Rattle.std.proofs.lemmas.Option.{get_or_from_slice_get, slice_get_within}
use Rattle.std.specs.List.{flat_map, slice_get}
use Rattle.edge_tests.specs.Port.Lines.{number_text}

drop_at : (xs : List ℕ) (at x : ℕ) → slice_get xs at ≡ Some x → drop at xs ≡ x ∷ drop (at + 1) xs
drop_at xs at x h =
    rw add-one (drop-cons xs at x (slice_get_within xs at x h) ∙ ap (λ (y : ℕ). y ∷ drop (suc at) xs) (get_or_from_slice_get xs at x x h))

-- one number more is written
pub number_more : (xs : List ℕ) (at x : ℕ) (out piece longer all : List ℕ)
    → out ++ flat_map number_text (drop at xs) ≡ all → slice_get xs at ≡ Some x → piece ≡ number_text x → longer ≡ out ++ piece
    → longer ++ flat_map number_text (drop (at + 1) xs) ≡ all
number_more xs at x out piece longer all before got is_piece is_longer =
    ap (λ (l : List ℕ). l ++ flat_map number_text (drop (at + 1) xs)) (is_longer ∙ ap (λ (l : List ℕ). out ++ l) is_piece)
    ∙ append_assoc out (number_text x) (flat_map number_text (drop (at + 1) xs))
    ∙ sym (ap (λ (l : List ℕ). out ++ flat_map number_text l) (drop_at xs at x got))
    ∙ before

-- a function of the bytes of each word
pub of_words : {A : Type 0} (f : List ℕ → A) (words : List (Bor (List ℕ))) → map (λ word. f word.now) words ≡ map f (map (λ word. word.now) words)
of_words f [] = refl
of_words {A} f (word ∷ words) = ap (λ (l : List A). f word.now ∷ l) (of_words f words)
