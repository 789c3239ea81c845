-- Which of two texts stands first doesn't matter to their equality.
use Rattle.std.proofs.Common.{◌≡◌, ℕ, Bool, true, false, List, refl, sym, ◌∙◌}
use Rattle.std.specs.Str.{bytes_eq}
use Rattle.std.proofs.lemmas.Slice.Eq.{bytes_eq-Decides}

pub same_bytes : (xs ys : List ℕ) → bytes_eq xs ys ≡ bytes_eq ys xs
same_bytes xs ys = go (bytes_eq xs ys) (bytes_eq ys xs) refl refl
  where
    go : (b c : Bool) → bytes_eq xs ys ≡ b → bytes_eq ys xs ≡ c → b ≡ c
    go true true p q = refl
    go false false p q = refl
    go true false p q = sym (sym q ∙ (bytes_eq-Decides ys xs).1 (sym ((bytes_eq-Decides xs ys).0 p)))
    go false true p q = sym p ∙ (bytes_eq-Decides xs ys).1 (sym ((bytes_eq-Decides ys xs).0 q))
