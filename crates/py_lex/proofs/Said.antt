-- What a text says, from a front of it on.
use Rattle.std.proofs.Common.{◌≡◌, ℕ, List, [], ◌∷◌, ◌++◌, Option, None, Some, refl, ap, append_assoc, append-nil}
use Rattle.py_syntax.specs.Items.{with_byte}

abbrev pub with_front : List ℕ → Option (List ℕ) → Option (List ℕ)
with_front front None = None
with_front front (Some bs) = Some (front ++ bs)

pub front_front : (front : List ℕ) (b : ℕ) (x : Option (List ℕ)) → with_front (front ++ b ∷ []) x ≡ with_front front (with_byte b x)
front_front front b None = refl
front_front front b (Some bs) = ap (λ (xs : List ℕ). Some xs) (append_assoc front (b ∷ []) bs)

pub front_none : (x : Option (List ℕ)) → with_front [] x ≡ x
front_none None = refl
front_none (Some bs) = refl

pub append_none : (front : List ℕ) → with_front front (Some []) ≡ Some front
append_none front = ap (λ (xs : List ℕ). Some xs) (append-nil front)
