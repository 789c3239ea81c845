-- Counts that are cut at 65, and one trigger more in a row.
use Rattle.std.proofs.Common.{◌≡◌, ℕ, ◌+◌, List, [], ◌∷◌, ◌++◌, length, take, get_or, add-one, refl, ap, sym, ◌∙◌, arith, ◌<◌}
use Rattle.std.proofs.Math.Seq.{take-suc}
use Rattle.std.specs.Prelude.{min, max, nat_le, ◌&&◌}
use Rattle.py_value.specs.declared.limits.Extent.{Extent}
use Rattle.py_value.specs.Trigger as trigger
use Rattle.py_value.specs.Trigger.{Trig, row, leaves, depth, row_leaves, row_depth, is_small, form_leaves, form_depth, Form}
use Rattle.py_value.specs.Extents.{cut, row_extent, trig_extent, beside}

leaves_more : (xs : List Trig) (t : Trig) → row_leaves (row (xs ++ t ∷ [])) ≡ row_leaves (row xs) + leaves t
leaves_more [] t = omega arith
leaves_more (x ∷ xs) t = let h = leaves_more xs t in omega (arith, h)

depth_more : (xs : List Trig) (t : Trig) → row_depth (row (xs ++ t ∷ [])) ≡ max (row_depth (row xs)) (depth t)
depth_more [] t = omega arith
depth_more (x ∷ xs) t = let h = depth_more xs t in omega (arith, h)

cut_sum : (a b : ℕ) → cut (cut a + cut b) ≡ cut (a + b)
cut_sum a b = omega arith

cut_max : (a b : ℕ) → max (cut a) (cut b) ≡ cut (max a b)
cut_max a b = omega arith

abbrev made : ℕ → ℕ → Extent
made l d = record { leaves = l; depth = d }

row_more : (xs : List Trig) (t : Trig) → beside (row_extent (row xs)) (trig_extent t) ≡ row_extent (row (xs ++ t ∷ []))
row_more xs (trigger.Made id form) =
    let t = trigger.Made id form in
    ap (λ (l : ℕ). made l (max (cut (row_depth (row xs))) (cut (depth t)))) (cut_sum (row_leaves (row xs)) (leaves t) ∙ ap cut (sym (leaves_more xs t)))
    ∙ ap (λ (d : ℕ). made (cut (row_leaves (row (xs ++ t ∷ [])))) d) (cut_max (row_depth (row xs)) (depth t) ∙ ap cut (sym (depth_more xs t)))

take_more : (xs : List Trig) (i : ℕ) (t : Trig) → i < length xs → t ≡ get_or xs i t → take i xs ++ t ∷ [] ≡ take (i + 1) xs
take_more xs i t h e = rw add-one (ap (λ (x : Trig). take i xs ++ x ∷ []) e ∙ sym (take-suc xs i t h))

pub row_step : (xs : List Trig) (i : ℕ) (t : Trig) (a b : Extent) → i < length xs → t ≡ get_or xs i t → a ≡ row_extent (row (take i xs)) → b ≡ trig_extent t
    → beside a b ≡ row_extent (row (take (i + 1) xs))
row_step xs i t a b h e p q =
    ap (λ (x : Extent). beside x b) p
    ∙ (ap (λ (y : Extent). beside (row_extent (row (take i xs))) y) q
    ∙ (row_more (take i xs) t ∙ ap (λ (l : List Trig). row_extent (row l)) (take_more xs i t h e)))

le_cut : (n : ℕ) → nat_le (min n 65) 64 ≡ nat_le n 64
le_cut n = grind arith

one_cut : (n : ℕ) → nat_le 1 (min n 65) ≡ nat_le 1 n
one_cut n = grind arith

pub small_cut : (l d : ℕ) → (nat_le 1 (cut l) && (nat_le (cut l) 64 && nat_le (cut d) 64)) ≡ (nat_le 1 l && (nat_le l 64 && nat_le d 64))
small_cut l d = rw (one_cut l) (rw (le_cut l) (rw (le_cut d) refl))
