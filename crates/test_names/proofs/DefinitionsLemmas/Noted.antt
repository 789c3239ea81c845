-- One item more is noted.
use Rattle.std.proofs.Common.{◌≡◌, ◌<◌, ◌≤◌, ◌+◌, ℕ, suc, Bool, true, false, ◌||◌, List, ◌∷◌, length, map, drop, drop-cons, add-one, Option, Some, None, get_or, refl, sym, ap, ◌∙◌, if◌then◌else◌}
use Rattle.std.proofs.lemmas.List.{drop_all}
use Rattle.std.specs.List.{position_from}
use Rattle.std.specs.Option.{option_or}
use Rattle.std.specs.Str.{bytes_eq}
use Rattle.py_syntax.specs.BlockTrees as tree
use Rattle.py_syntax.specs.BlockTrees.{view_module_item}
use Rattle.py_syntax.specs.declared.tree.ModuleItem.{ModuleItem}
use Rattle.name_table.specs.Places.{first_place, noted}
use Rattle.name_table.proofs.Stored.{unchanged}
use Rattle.test_meaning.specs.Rules.Names.{is_among}
use Rattle.test_names.specs.Definitions.Notes.{noted_if}

-- what is known already, and what one test more and the rest tell
one_more : (i : ℕ) (b : Bool) (o r : Option ℕ) → option_or o (if b then Some i else r) ≡ option_or (option_or o (if b then Some i else None)) r
one_more i b (Some k) r = refl
one_more i true None r = refl
one_more i false None r = refl

-- what is noted of the items before one, and what the items from that one on define
pub noted_more : (p : List ℕ → tree.ModuleItem → Bool) (items : List ModuleItem) (i : ℕ) (x : ModuleItem) (old new : List (List ℕ × ℕ)) → i < length items → x ≡ get_or items i x
    → ((n : List ℕ) → first_place new n ≡ noted_if i (p n (view_module_item x)) (first_place old n))
    → ((n : List ℕ) → position_from (p n) 0 (map view_module_item items) ≡ option_or (first_place old n) (position_from (p n) i (map view_module_item (drop i items))))
    → (n : List ℕ) → position_from (p n) 0 (map view_module_item items) ≡ option_or (first_place new n) (position_from (p n) (i + 1) (map view_module_item (drop (i + 1) items)))
noted_more p items i x old new h is e before n =
    before n ∙ ap (λ ys. option_or (first_place old n) (position_from (p n) i (map view_module_item ys))) (drop-cons items i x h ∙ ap (λ y. y ∷ drop (suc i) items) (sym is))
    ∙ one_more i (p n (view_module_item x)) (first_place old n) (position_from (p n) (i + 1) (map view_module_item (drop (suc i) items)))
    ∙ ap (λ o. option_or o (position_from (p n) (i + 1) (map view_module_item (drop (suc i) items)))) (sym (e n))
    ∙ ap (λ j. option_or (first_place new n) (position_from (p n) (i + 1) (map view_module_item (drop j items)))) (sym (add-one i))

-- behind the last item
pub all_noted : (p : List ℕ → tree.ModuleItem → Bool) (items : List ModuleItem) (i : ℕ) (names : List (List ℕ × ℕ)) → length items ≤ i
    → ((n : List ℕ) → position_from (p n) 0 (map view_module_item items) ≡ option_or (first_place names n) (position_from (p n) i (map view_module_item (drop i items))))
    → (n : List ℕ) → first_place names n ≡ position_from (p n) 0 (map view_module_item items)
all_noted p items i names h before n =
    unchanged (first_place names n)
    ∙ sym (before n ∙ ap (λ ys. option_or (first_place names n) (position_from (p n) i (map view_module_item ys))) (drop_all i items h))

-- ---- the names of one item

two_more : (i : ℕ) (b c : Bool) (o : Option ℕ) → noted_if i (b || c) o ≡ noted_if i c (noted_if i b o)
two_more i b c (Some k) = refl
two_more i true c None = refl
two_more i false c None = refl

-- what is noted of the names before one, and what the names from that one on are
pub name_noted : (names : List (List ℕ)) (i place : ℕ) (x : List ℕ) (before old new : List (List ℕ × ℕ)) → i < length names → x ≡ get_or names i x
    → ((n : List ℕ) → first_place new n ≡ noted x place (first_place old) n)
    → ((n : List ℕ) → noted_if place (is_among n names) (first_place before n) ≡ noted_if place (is_among n (drop i names)) (first_place old n))
    → (n : List ℕ) → noted_if place (is_among n names) (first_place before n) ≡ noted_if place (is_among n (drop (i + 1) names)) (first_place new n)
name_noted names i place x before old new h is e so n =
    so n ∙ ap (λ ms. noted_if place (is_among n ms) (first_place old n)) (drop-cons names i x h ∙ ap (λ y. y ∷ drop (suc i) names) (sym is))
    ∙ two_more place (bytes_eq n x) (is_among n (drop (suc i) names)) (first_place old n)
    ∙ ap (λ o. noted_if place (is_among n (drop (suc i) names)) o) (sym (e n))
    ∙ ap (λ j. noted_if place (is_among n (drop j names)) (first_place new n)) (sym (add-one i))

-- behind the last name
pub names_noted : (names : List (List ℕ)) (i place : ℕ) (before after : List (List ℕ × ℕ)) → length names ≤ i
    → ((n : List ℕ) → noted_if place (is_among n names) (first_place before n) ≡ noted_if place (is_among n (drop i names)) (first_place after n))
    → (n : List ℕ) → first_place after n ≡ noted_if place (is_among n names) (first_place before n)
names_noted names i place before after h so n =
    unchanged (first_place after n)
    ∙ sym (so n ∙ ap (λ ms. noted_if place (is_among n ms) (first_place after n)) (drop_all i names h))
