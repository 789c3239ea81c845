-- One line more before what was made of the lines behind it.
use Rattle.std.proofs.Common.{◌≡◌, ℕ, suc, eqb, true, false, List, [], ◌∷◌, ◌++◌, refl, ap, map, ◌∙◌, arith, ◌⊎◌, inl, inr}
use Rattle.std.proofs.lemmas.Bool.{cases_Bool, eqb-true}
use Rattle.std.proofs.lemmas.List.{map-append}
use Rattle.py_syntax.specs.Modules.{placed}
use Rattle.py_syntax.specs.Outline.{Content, Placed, view_placed}
use Rattle.py_syntax.specs.declared.outline.PlacedLine.{PlacedLine}
use Rattle.py_parse.specs.Nesting.{Nest, add, all_from, item_of, block_under, blocks_over, with_item}

pub all_from_more : (ps qs : List Placed) (nest : Nest) → all_from (ps ++ qs) nest ≡ all_from ps (all_from qs nest)
all_from_more [] qs nest = refl
all_from_more (p ∷ ps) qs nest = ap (add p) (all_from_more ps qs nest)

pub all_from_last : (ls : List PlacedLine) (l : PlacedLine) (nest : Nest) → all_from (map view_placed (ls ++ (l ∷ []))) nest ≡ all_from (map view_placed ls) (add (view_placed l) nest)
all_from_last ls l nest = ap (λ ps. all_from ps nest) (map-append view_placed ls (l ∷ [])) ∙ all_from_more (map view_placed ls) (map view_placed (l ∷ [])) nest

suc_not_zero : (d : ℕ) → eqb (suc d) 0 ≡ false
suc_not_zero d = go (cases_Bool (eqb (suc d) 0))
  where
    go : (eqb (suc d) 0 ≡ true) ⊎ (eqb (suc d) 0 ≡ false) → eqb (suc d) 0 ≡ false
    go (inl e) = absurd (omega (arith, eqb-true (suc d) 0 e))
    go (inr e) = e

-- a line of a block
pub add_is : (d n : ℕ) (c : Content) (nest : Nest)
    → add (placed (suc d) n c) nest ≡ record { items = nest.items; blocks = with_item (suc d) (item_of n c (block_under (suc d) nest.blocks)) (blocks_over (suc d) nest.blocks) }
unfolding add
add_is d n c nest = rw (suc_not_zero d) refl
