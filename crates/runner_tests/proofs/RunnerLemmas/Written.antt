-- Texts that are written value by value.
use Rattle.std.proofs.Common.{◌≡◌, ℕ, ◌+◌, List, ◌∷◌, ◌++◌, drop, add-one, drop-cons, suc, ap, sym, ◌∙◌, append_assoc}
use Rattle.std.specs.List.{flat_map}
use Rattle.std.specs.Prelude.{slice_get, Some}
use Rattle.std.proofs.lemmas.Option.{get_or_from_slice_get, slice_get_within}

-- what is left from a value on
left_from : {X : Type 0} (xs : List X) (at : ℕ) (x : X) → slice_get xs at ≡ Some x → drop at xs ≡ x ∷ drop (at + 1) xs
left_from {X} xs at x h =
    rw add-one (drop-cons xs at x (slice_get_within xs at x h) ∙ ap (λ (y : X). y ∷ drop (suc at) xs) (get_or_from_slice_get xs at x x h))

-- one value more is written
pub more_written : {X : Type 0} (word : X → List ℕ) (xs : List X) (at : ℕ) (x : X) (out piece longer : List ℕ)
    → out ++ flat_map word (drop at xs) ≡ flat_map word xs → slice_get xs at ≡ Some x → piece ≡ word x → longer ≡ out ++ piece
    → longer ++ flat_map word (drop (at + 1) xs) ≡ flat_map word xs
more_written {X} word xs at x out piece longer before got is_piece is_longer =
    ap (λ (l : List ℕ). l ++ flat_map word (drop (at + 1) xs)) (is_longer ∙ ap (λ (l : List ℕ). out ++ l) is_piece)
    ∙ append_assoc out (word x) (flat_map word (drop (at + 1) xs))
    ∙ sym (ap (λ (l : List X). out ++ flat_map word l) (left_from xs at x got))
    ∙ before
