-- What is awaited in one list, or in the next.
use Rattle.std.proofs.Common.{◌≡◌, Bool, true, false, List, [], ◌∷◌, ◌++◌, refl, ap, sym, ◌∙◌}
use Rattle.std.specs.Prelude.{◌||◌}
use Rattle.await_tree.specs.declared.cause.Awaited.{Awaited}
use Rattle.await_tree.specs.Fire.{is_same, is_among}

or_none : (b : Bool) → b ≡ (b || false)
or_none true = refl
or_none false = refl

pub among_one : (a own : Awaited) → is_same a own ≡ is_among a (own ∷ [])
among_one a own = or_none (is_same a own)

or_or : (a b c : Bool) → ((a || b) || c) ≡ (a || (b || c))
or_or true b c = refl
or_or false b c = refl

pub among_more : (a : Awaited) (xs ys : List Awaited) → (is_among a xs || is_among a ys) ≡ is_among a (xs ++ ys)
among_more a [] ys = refl
among_more a (x ∷ xs) ys = or_or (is_same a x) (is_among a xs) (is_among a ys) ∙ ap (λ (b : Bool). is_same a x || b) (among_more a xs ys)

pub among_left : (a : Awaited) (xs ys : List Awaited) → is_among a xs ≡ true → true ≡ is_among a (xs ++ ys)
among_left a xs ys h = sym (ap (λ (b : Bool). b || is_among a ys) h) ∙ among_more a xs ys

pub among_right : (a : Awaited) (xs ys : List Awaited) → is_among a xs ≡ false → is_among a ys ≡ is_among a (xs ++ ys)
among_right a xs ys h = sym (ap (λ (b : Bool). b || is_among a ys) h) ∙ among_more a xs ys

pub among_last : (a own : Awaited) (xs : List Awaited) → is_among a xs ≡ false → is_same a own ≡ is_among a (xs ++ own ∷ [])
among_last a own xs h = among_one a own ∙ among_right a xs (own ∷ []) h
