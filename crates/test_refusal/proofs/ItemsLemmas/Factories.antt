-- For which functions there are factories.
use Rattle.std.proofs.Common.{◌≡◌, ◌<◌, ◌≤◌, ◌+◌, ◌||◌, ℕ, suc, Bool, true, false, List, [], ◌∷◌, length, map, drop, drop-cons, add-one, get_or, Option, Some, None, refl, sym, ap, ◌∙◌, if◌then◌else◌}
use Rattle.std.proofs.lemmas.List.{drop_all}
use Rattle.std.specs.List.{list_any, filter_map, cons_option}
use Rattle.std.specs.Option.{is_some, option_map, option_map_or, option_or}
use Rattle.std.specs.Str.{bytes_eq}
use Rattle.py_syntax.specs.BlockTrees as tree
use Rattle.py_syntax.specs.BlockTrees.{view_module_item}
use Rattle.py_syntax.specs.declared.tree.ModuleItem.{ModuleItem}
use Rattle.name_table.specs.Places.{first_place, noted, nowhere}
use Rattle.test_meaning.specs.Rules.File.{Maker, factory_of, file_of, is_made_name}
use Rattle.test_meaning.specs.Rules.Names.{Name}
use Rattle.test_meaning.proofs.RulesLemmas.Texts.{same_bytes}
use Rattle.test_refusal.specs.Items.Functions.{makes}

or_none : (a : Bool) → (a || false) ≡ a
or_none true = refl
or_none false = refl

or_more : (a b c : Bool) → (a || (b || c)) ≡ ((a || b) || c)
or_more true b c = refl
or_more false b c = refl

-- a factory for a function of this name is an item that makes one
made_by_items : (xs : List tree.ModuleItem) (n : Name) → is_made_name (file_of xs) n ≡ list_any (makes n) xs
made_by_items [] n = refl
made_by_items (x ∷ xs) n = go (factory_of x) (made_by_items xs n)
  where
    p : Maker → Bool
    p k = bytes_eq k.function n

    go : (o : Option Maker) → list_any p (filter_map factory_of xs) ≡ list_any (makes n) xs
        → list_any p (cons_option o (filter_map factory_of xs)) ≡ (option_map_or p o false || list_any (makes n) xs)
    go None h = h
    go (Some k) h = ap (λ b. bytes_eq k.function n || b) h

-- an item makes one
made_of : (o : Option Maker) (f n : Name) → Some f ≡ option_map (λ (k : Maker). k.function) o → option_map_or (λ k. bytes_eq k.function n) o false ≡ bytes_eq n f
made_of None f n e = cc
made_of (Some k) f n e = ap (λ (o : Option Name). option_map_or (λ m. bytes_eq m n) o false) (sym e) ∙ same_bytes f n

some_noted : (o : Option ℕ) (b : Bool) → is_some (option_or o (if b then Some 0 else None)) ≡ (is_some o || b)
some_noted None true = refl
some_noted None false = refl
some_noted (Some i) b = refl

pub noted_made : (x : tree.ModuleItem) (f : Name) (s t : List (Name × ℕ)) → Some f ≡ option_map (λ (k : Maker). k.function) (factory_of x)
    → ((n : Name) → first_place t n ≡ noted f 0 (first_place s) n) → (n : Name) → is_some (first_place t n) ≡ (is_some (first_place s n) || makes n x)
noted_made x f s t e h n =
    ap (λ (o : Option ℕ). is_some o) (h n) ∙ some_noted (first_place s n) (bytes_eq n f)
    ∙ ap (λ b. is_some (first_place s n) || b) (sym (made_of (factory_of x) f n e))

-- an item makes none
none_of : (o : Option Maker) (n : Name) → None ≡ option_map (λ (k : Maker). k.function) o → option_map_or (λ k. bytes_eq k.function n) o false ≡ false
none_of None n e = refl
none_of (Some k) n e = cc

pub none_made : (x : tree.ModuleItem) (s : List (Name × ℕ)) → None ≡ option_map (λ (k : Maker). k.function) (factory_of x)
    → (n : Name) → is_some (first_place s n) ≡ (is_some (first_place s n) || makes n x)
none_made x s e n = sym (ap (λ b. is_some (first_place s n) || b) (none_of (factory_of x) n e) ∙ or_none (is_some (first_place s n)))

-- one item more
pub item_more : (items : List ModuleItem) (i : ℕ) (x : ModuleItem) (s t : List (Name × ℕ)) → i < length items → x ≡ get_or items i x
    → ((n : Name) → is_some (first_place t n) ≡ (is_some (first_place s n) || makes n (view_module_item x)))
    → ((n : Name) → list_any (makes n) (map view_module_item items) ≡ (is_some (first_place s n) || list_any (makes n) (map view_module_item (drop i items))))
    → (n : Name) → list_any (makes n) (map view_module_item items) ≡ (is_some (first_place t n) || list_any (makes n) (map view_module_item (drop (i + 1) items)))
item_more items i x s t h is step so n =
    so n ∙ ap (λ ys. is_some (first_place s n) || list_any (makes n) (map view_module_item ys)) (drop-cons items i x h ∙ ap (λ y. y ∷ drop (suc i) items) (sym is))
    ∙ or_more (is_some (first_place s n)) (makes n (view_module_item x)) (list_any (makes n) (map view_module_item (drop (suc i) items)))
    ∙ ap (λ b. b || list_any (makes n) (map view_module_item (drop (suc i) items))) (sym (step n))
    ∙ ap (λ j. is_some (first_place t n) || list_any (makes n) (map view_module_item (drop j items))) (sym (add-one i))

-- behind the last item
pub all_items : (items : List ModuleItem) (i : ℕ) (s : List (Name × ℕ)) → length items ≤ i
    → ((n : Name) → list_any (makes n) (map view_module_item items) ≡ (is_some (first_place s n) || list_any (makes n) (map view_module_item (drop i items))))
    → (n : Name) → is_some (first_place s n) ≡ is_made_name (file_of (map view_module_item items)) n
all_items items i s h so n =
    sym (or_none (is_some (first_place s n)))
    ∙ sym (so n ∙ ap (λ ys. is_some (first_place s n) || list_any (makes n) (map view_module_item ys)) (drop_all i items h))
    ∙ sym (made_by_items (map view_module_item items) n)

-- no item yet
pub no_item : (items : List ModuleItem) (s : List (Name × ℕ)) → first_place s ≡ nowhere
    → (n : Name) → list_any (makes n) (map view_module_item items) ≡ (is_some (first_place s n) || list_any (makes n) (map view_module_item items))
no_item items s e n = ap (λ (t : List ℕ → Option ℕ). is_some (t n) || list_any (makes n) (map view_module_item items)) (sym e)
