-- The parameters of items, one item after another.
use Rattle.std.proofs.Common.{◌≡◌, ℕ, ◌+◌, ◌<◌, ◌≤◌, List, ◌∷◌, ◌++◌, length, drop, get_or, map, refl, sym, ap, ◌∙◌, append_assoc, append-nil}
use Rattle.std.proofs.lemmas.List.{drop_all}
use Rattle.v_syntax.specs.declared.item.Item.{Item}
use Rattle.v_syntax.specs.SourceTrees.{Ports, Nets, Registers, Integers, Parameters, Drivers, Always, Initial, Instance, ItemTree, ItemAt, view_item}
use Rattle.v_flat.specs.Headers.{Parameter, in_line, item_parameters}
use Rattle.v_header.specs.Parameters.{parameters_in_item}
use Rattle.v_header.proofs.LaterNames.{rest_at}

-- the parameters of an item, and then those of the others
parameters_first : (i : ItemTree) (is : List ItemTree) → item_parameters (i ∷ is) ≡ parameters_in_item i ++ item_parameters is
parameters_first (ItemAt p (Ports h ns)) is = refl
parameters_first (ItemAt p (Nets r ds)) is = refl
parameters_first (ItemAt p (Registers r ds)) is = refl
parameters_first (ItemAt p (Integers ns)) is = refl
parameters_first (ItemAt p (Parameters k r ps)) is = ap (λ (l : List Parameter). l ++ item_parameters is) (sym (append-nil (map (in_line k r) ps)))
parameters_first (ItemAt p (Drivers ds)) is = refl
parameters_first (ItemAt p (Always c s)) is = refl
parameters_first (ItemAt p (Initial s)) is = refl
parameters_first (ItemAt p (Instance m ps i cs)) is = refl

module _ (xs : List Item) (k : ℕ) (all old : List Parameter) (inv : all ≡ old ++ item_parameters (map view_item (drop k xs))) where
  -- the item at a place, and then those behind it
  pub item_turn : (x : Item) (new : List Parameter) → k < length xs → x ≡ get_or xs k x → new ≡ old ++ parameters_in_item (view_item x)
      → all ≡ new ++ item_parameters (map view_item (drop (k + 1) xs))
  item_turn x new h e g =
      let rest = map view_item (drop (k + 1) xs) in
      inv ∙ ap (λ (l : List Item). old ++ item_parameters (map view_item l)) (rest_at xs k x h e)
      ∙ ap (λ (l : List Parameter). old ++ l) (parameters_first (view_item x) rest)
      ∙ sym (append_assoc old (parameters_in_item (view_item x)) (item_parameters rest))
      ∙ ap (λ (l : List Parameter). l ++ item_parameters rest) (sym g)

  pub items_done : length xs ≤ k → old ≡ all
  items_done h = sym (inv ∙ ap (λ (l : List Item). old ++ item_parameters (map view_item l)) (drop_all k xs h) ∙ append-nil old)
