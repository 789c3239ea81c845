-- What is left of a text.
use Rattle.std.proofs.Common.{◌≡◌, ℕ, suc, ◌<◌, ◌≤◌, List, [], ◌∷◌, ◌++◌, length, append_assoc, refl, sym, ap, ◌∙◌, arith, ◌⊎◌, inl, inr}
use Rattle.std.proofs.lemmas.List.{length-append}
use Rattle.v_syntax.specs.declared.token.Token.{Token}

pub at_most_or_more : (a b : ℕ) → (a ≤ b) ⊎ (b < a)
at_most_or_more a b = grind arith

abbrev pub IsSuffix : List Token → List Token → Type 0
IsSuffix mid here = (xs : List Token) × (here ≡ xs ++ mid)

pub suffix_self : (ts : List Token) → IsSuffix ts ts
suffix_self ts = ([], refl)

pub suffix_cons : (t : Token) (here us mid : List Token) → here ≡ t ∷ us → IsSuffix mid us → IsSuffix mid here
suffix_cons t here us mid p (xs, q) = (t ∷ xs, p ∙ ap (λ z. t ∷ z) q)

pub suffix_trans : (a b c : List Token) → IsSuffix a b → IsSuffix b c → IsSuffix a c
suffix_trans a b c (xs, p) (ys, q) = (ys ++ xs, q ∙ ap (λ z. ys ++ z) p ∙ sym (append_assoc ys xs a))

cons_parts : (x y : Token) (xs ys : List Token) → x ∷ xs ≡ y ∷ ys → xs ≡ ys
cons_parts x y xs ys h = cc

-- the mark at the front, or something behind it
pub first_cut : (t : Token) (here us mid : List Token) → here ≡ t ∷ us → IsSuffix mid here → (here ≡ mid) ⊎ IsSuffix mid us
first_cut t here us mid p ([], q) = inl q
first_cut t here us mid p (x ∷ xs, q) = inr (xs, cons_parts t x us (xs ++ mid) (sym p ∙ q))

append_long : (xs ys : List Token) → length ys ≤ length (xs ++ ys)
append_long xs ys = omega (arith, length-append xs ys)

within : (xs ys us mid : List Token) → xs ++ us ≡ ys ++ mid → length mid ≤ length us → IsSuffix mid us
within [] ys us mid e h = (ys, e)
within (x ∷ xs) [] us mid e h = absurd (let l : suc (length (xs ++ us)) ≡ length mid = ap length e in omega (arith, append_long xs us))
within (x ∷ xs) (y ∷ ys) us mid e h = within xs ys us mid (cons_parts x y (xs ++ us) (ys ++ mid) e) h

pub suffix_within : (here us mid : List Token) → IsSuffix us here → IsSuffix mid here → length mid ≤ length us → IsSuffix mid us
suffix_within here us mid (xs, p) (ys, q) h = within xs ys us mid (sym p ∙ q) h

pub suffix_same : (rest mid : List Token) → IsSuffix mid rest → length rest ≤ length mid → rest ≡ mid
suffix_same rest mid ([], p) h = p
suffix_same rest mid (x ∷ xs, p) h = absurd (let l : length rest ≡ suc (length (xs ++ mid)) = ap length p in omega (arith, append_long xs mid))
