-- Names that differ in the words of `v_flat::shape` differ in those of this crate.
use Rattle.std.proofs.Common.{◌≡◌, ◌||◌, ℕ, Bool, true, false, List, [], ◌∷◌, bytes_eq, refl}
use Rattle.std.specs.List.{AllByRecursion, IsDistinct, list_any}
use Rattle.v_flat.proofs.ShapeLemmas.Names as shape
use Rattle.v_elab.specs.Ports.{Differ}

neither : (a b : Bool) → ((a || b) ≡ true → ⊥) → (a ≡ false) × (b ≡ true → ⊥)
neither true b h = absurd (h refl)
neither false b h = (refl, h)

not_among : (n : List ℕ) (ns : List (List ℕ)) → (list_any (bytes_eq n) ns ≡ true → ⊥) → AllByRecursion (λ m. bytes_eq n m ≡ false) ns
not_among n [] h = tt
not_among n (m ∷ ns) h = let s = neither (bytes_eq n m) (list_any (bytes_eq n) ns) h in (s.0, not_among n ns s.1)

pub differ : (ns : List (List ℕ)) → shape.Differ ns → Differ ns
unfolding IsDistinct
differ [] h = tt
differ (n ∷ ns) h = (not_among n ns h.0, differ ns h.1)
