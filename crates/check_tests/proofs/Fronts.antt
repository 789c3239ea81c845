-- Texts of the values in front.
use Rattle.std.proofs.Common.{◌≡◌, ℕ, ◌+◌, List, [], ◌∷◌, ◌++◌, length, take, map, Result, IfOk, Vec, Global, Some, add-one, ap, sym, ◌∙◌}
use Rattle.std.proofs.Math.Seq.{take-suc}
use Rattle.std.proofs.lemmas.Grind.{flat_map-append}
use Rattle.std.proofs.lemmas.List.{append-nil, take-map}
use Rattle.std.proofs.lemmas.List.Folds.{flat_map-map}
use Rattle.std.proofs.lemmas.Result.{IfOk-weaker}
use Rattle.std.proofs.lemmas.Option.{get_or_from_slice_get, slice_get_within}
use Rattle.std.specs.List.{flat_map, slice_get}

-- one value more
take_more : {X : Type 0} (xs : List X) (n : ℕ) (x : X) → slice_get xs n ≡ Some x → take (n + 1) xs ≡ take n xs ++ x ∷ []
take_more {X} xs n x h =
    rw add-one (take-suc xs n x (slice_get_within xs n x h) ∙ ap (λ (y : X). take n xs ++ y ∷ []) (get_or_from_slice_get xs n x x h))

-- one text more
pub text_more : {X : Type 0} (f : X → List ℕ) (xs : List X) (n : ℕ) (x : X) (text piece more : List ℕ)
    → slice_get xs n ≡ Some x → text ≡ flat_map f (take n xs) → piece ≡ f x → more ≡ text ++ piece → more ≡ flat_map f (take (n + 1) xs)
text_more {X} f xs n x text piece more h e is g =
    g
    ∙ ap (λ (t : List ℕ). text ++ t) is
    ∙ ap (λ (t : List ℕ). t ++ f x) e
    ∙ ap (λ (t : List ℕ). flat_map f (take n xs) ++ t) (sym (append-nil (f x)))
    ∙ sym (flat_map-append f (take n xs) (x ∷ []))
    ∙ ap (λ (ys : List X). flat_map f ys) (sym (take_more xs n x h))

-- texts of values that are seen as others
pub seen_all : {X Y E : Type 0} (f : Y → List ℕ) (g : X → Y) (xs : List X) (r : Result (Vec ℕ Global) E)
    → IfOk r (λ text. text.items ≡ flat_map (λ x. f (g x)) xs) → IfOk r (λ text. text.items ≡ flat_map f (map g xs))
seen_all f g xs r e =
    IfOk-weaker r (λ text. text.items ≡ flat_map (λ x. f (g x)) xs) (λ text. text.items ≡ flat_map f (map g xs))
    (λ text shows. shows ∙ sym (flat_map-map f g xs)) e

pub seen_front : {X Y E : Type 0} (f : Y → List ℕ) (g : X → Y) (n : ℕ) (xs : List X) (r : Result (Vec ℕ Global) E)
    → IfOk r (λ text. text.items ≡ flat_map (λ x. f (g x)) (take n xs)) → IfOk r (λ text. text.items ≡ flat_map f (take n (map g xs)))
seen_front {X} {Y} f g n xs r e =
    IfOk-weaker r (λ text. text.items ≡ flat_map (λ x. f (g x)) (take n xs)) (λ text. text.items ≡ flat_map f (take n (map g xs)))
    (λ text shows. shows ∙ sym (ap (λ (ys : List Y). flat_map f ys) (take-map g n xs) ∙ flat_map-map f g (take n xs))) e
