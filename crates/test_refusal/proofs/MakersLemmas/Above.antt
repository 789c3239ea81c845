-- What stands above a line, by the places of a whole file.
use Rattle.std.proofs.Common.{◌≡◌, ◌<◌, ◌≤◌, ℕ, length, map, nat_lt, Bor, option_copied, Bool, true, false, ◌||◌, List, [], ◌∷◌, ◌++◌, take, drop, slice_get, Option, Some, None, refl, sym, ap, ◌∙◌, if◌then◌else◌, cond}
use Rattle.std.proofs.lemmas.Bool.{le-ltb, lt-ltb, ltb-false, ltb-true}
use Rattle.std.proofs.lemmas.List.{take-append-drop}
use Rattle.std.proofs.lemmas.List.Folds.{find-append}
use Rattle.std.proofs.lemmas.Option.{slice_get-map, slice_get_past, slice_get_read}
use Rattle.std.specs.List.{list_any, find, position_from}
use Rattle.std.specs.Slice.{IsItemAt}
use Rattle.std.specs.Option.{is_some, option_and_then, option_map, option_map_or, option_or}
use Rattle.std.specs.Str.{bytes_eq}
use Rattle.py_syntax.specs.BlockTrees.{ModuleItem, TextAt, LineAt, FunctionAt, view_module_item}
use Rattle.py_syntax.specs.declared.module.Parameter.{Parameter}
use Rattle.py_syntax.specs.declared.tree.ModuleItem as code
use Rattle.py_syntax.specs.ModuleTrees as line
use Rattle.test_names.specs.Definitions.Definitions.{is_defined}
use Rattle.test_names.specs.declared.definitions.item.Kind.TheVariants as kind
use Rattle.test_names.proofs.DefinitionsLemmas.ByKind.{functions_have_parameters}
use Rattle.test_names.proofs.DefinitionsLemmas.FirstPlaces.{above_by_place, found_at_place}
use Rattle.test_meaning.specs.Rules.File.{Definition, File, Maker, factory, factory_of, file_of, function, its_function, made_by, parameters_of}
use Rattle.test_meaning.specs.Rules.Names.{Name}
use Rattle.test_meaning.proofs.RulesLemmas.Texts.{same_bytes}
use Rattle.name_table.specs.Places.{first_place}
use Rattle.test_names.specs.Scope.Tables.{AreTables}
use Rattle.test_names.specs.declared.scope.tables.Tables.{Tables}

-- the element at a place, where that stands above
abbrev pub above_at : {A : Type 0} → List A → ℕ → Option ℕ → Option A
above_at xs k o = option_and_then (λ i. if nat_lt i k then slice_get xs i else None) o

some_found : {A : Type 0} (p : A → Bool) (xs : List A) → is_some (find p xs) ≡ list_any p xs
some_found p [] = refl
some_found p (x ∷ xs) = go (p x) (some_found p xs)
  where
    go : (b : Bool) → is_some (find p xs) ≡ list_any p xs → is_some (cond b (Some x) (find p xs)) ≡ (b || list_any p xs)
    go true h = refl
    go false h = h

-- the first that passes of those above
pub found_above : {A : Type 0} (p : A → Bool) (xs : List A) (k : ℕ) → find p (take k xs) ≡ above_at xs k (position_from p 0 xs)
found_above {A} p xs k = go (find p (take k xs)) refl (position_from p 0 xs) refl
  where
    there : is_some (find p (take k xs)) ≡ option_map_or (λ i. nat_lt i k) (position_from p 0 xs) false
    there = some_found p (take k xs) ∙ above_by_place p xs k

    whole : find p xs ≡ option_or (find p (take k xs)) (find p (drop k xs))
    whole = ap (λ ys. find p ys) (sym (take-append-drop k xs)) ∙ find-append p (take k xs) (drop k xs)

    none : (r : Option A) → false ≡ is_some r → r ≡ None
    none None h = refl
    none (Some a) h = cc

    reached : (i : ℕ) (b : Bool) → nat_lt i k ≡ b → (r : Option A) → find p (take k xs) ≡ r → position_from p 0 xs ≡ Some i → find p (take k xs) ≡ above_at xs k (position_from p 0 xs)
    reached i false f r e w =
        e ∙ none r (sym (ap (λ (q : Option A). is_some q) (sym e) ∙ there ∙ ap (λ o. option_map_or (λ j. nat_lt j k) o false) w ∙ f))
        ∙ sym (ap (λ o. above_at xs k o) w ∙ ap (λ b. if b then slice_get xs i else None) f)
    reached i true f None e w =
        let no : false ≡ true = ap (λ (q : Option A). is_some q) (sym e) ∙ there ∙ ap (λ o. option_map_or (λ j. nat_lt j k) o false) w ∙ f in
        cc
    reached i true f (Some a) e w =
        sym (whole ∙ ap (λ (q : Option A). option_or q (find p (drop k xs))) e ∙ sym e)
        ∙ found_at_place p xs ∙ ap (λ o. option_and_then (slice_get xs) o) w
        ∙ sym (ap (λ o. above_at xs k o) w ∙ ap (λ b. if b then slice_get xs i else None) f)

    go : (r : Option A) → find p (take k xs) ≡ r → (o : Option ℕ) → position_from p 0 xs ≡ o → find p (take k xs) ≡ above_at xs k (position_from p 0 xs)
    go r e None w = e ∙ none r (sym (ap (λ (q : Option A). is_some q) (sym e) ∙ there ∙ ap (λ o. option_map_or (λ i. nat_lt i k) o false) w)) ∙ sym (ap (λ o. above_at xs k o) w)
    go r e (Some i) w = reached i (nat_lt i k) refl r e w

pub function_above : (xs : List ModuleItem) (k : ℕ) (n : Name) (o : Option ℕ) → o ≡ position_from (is_defined kind.Function n) 0 xs
    → option_map (λ (d : Definition). d.parameters) (function (file_of (take k xs)) n) ≡ option_map parameters_of (above_at xs k o)
function_above xs k n o e =
    functions_have_parameters (take k xs) n
    ∙ ap (λ (x : Option ModuleItem). option_map parameters_of x) (found_above (is_defined kind.Function n) xs k ∙ ap (λ p. above_at xs k p) (sym e))

-- what an item is a factory for
abbrev pub maker_function : ModuleItem → Option Name
maker_function x = option_map (λ (m : Maker). m.function) (factory_of x)

factories_have_functions : (xs : List ModuleItem) (n : Name)
    → option_map (λ (m : Maker). m.function) (factory (file_of xs) n) ≡ option_and_then maker_function (find (is_defined kind.Factory n) xs)
factories_have_functions [] n = refl
factories_have_functions (TextAt l ∷ xs) n = factories_have_functions xs n
factories_have_functions (FunctionAt l f ps b ∷ xs) n = factories_have_functions xs n
factories_have_functions (LineAt l (line.Factory m f) ∷ xs) n = go (bytes_eq m n) (bytes_eq n m) (same_bytes m n) (factories_have_functions xs n)
  where
    go : (b c : Bool) → b ≡ c → option_map (λ (k : Maker). k.function) (factory (file_of xs) n) ≡ option_and_then maker_function (find (is_defined kind.Factory n) xs)
        → option_map (λ (k : Maker). k.function) (if b then Some (record { name = m; function = f }) else factory (file_of xs) n)
        ≡ option_and_then maker_function (if c then Some (LineAt l (line.Factory m f)) else find (is_defined kind.Factory n) xs)
    go true true e h = refl
    go false false e h = h
    go true false e h = cc
    go false true e h = cc
factories_have_functions (LineAt l (line.Test ss) ∷ xs) n = factories_have_functions xs n
factories_have_functions (LineAt l (line.Constant m c) ∷ xs) n = factories_have_functions xs n
factories_have_functions (LineAt l (line.Import m) ∷ xs) n = factories_have_functions xs n
factories_have_functions (LineAt l (line.FromImport ms ns) ∷ xs) n = factories_have_functions xs n
factories_have_functions (LineAt l (line.AddOption m o cs) ∷ xs) n = factories_have_functions xs n
factories_have_functions (LineAt l (line.GenerateTests m p q) ∷ xs) n = factories_have_functions xs n
factories_have_functions (LineAt l (line.Function m ps) ∷ xs) n = factories_have_functions xs n

pub factory_above : (xs : List ModuleItem) (k : ℕ) (n : Name) (o : Option ℕ) → o ≡ position_from (is_defined kind.Factory n) 0 xs
    → option_map (λ (m : Maker). m.function) (factory (file_of (take k xs)) n) ≡ option_and_then maker_function (above_at xs k o)
factory_above xs k n o e =
    factories_have_functions (take k xs) n
    ∙ ap (λ (x : Option ModuleItem). option_and_then maker_function x) (found_above (is_defined kind.Factory n) xs k ∙ ap (λ p. above_at xs k p) (sym e))

-- ---- by a look-up

read_at : {A : Type 0} (xs : List A) (i : ℕ) (o : Option (Bor A)) → IsItemAt xs i o → option_copied o ≡ slice_get xs i
read_at xs i None h = sym (slice_get_past xs i (ltb-false i (length xs) (sym h.0)))
read_at xs i (Some x) h = sym (slice_get_read xs (length xs) i x.now refl (ltb-true i (length xs) (sym h.0)) h.1)

pub none_above : (xs : List ModuleItem) (k : ℕ) (o : Option ℕ) → o ≡ None → above_at xs k o ≡ None
none_above xs k o e = ap (λ p. above_at xs k p) e

pub past_above : (xs : List ModuleItem) (k i : ℕ) (o : Option ℕ) → o ≡ Some i → k ≤ i → above_at xs k o ≡ None
past_above xs k i o e h = ap (λ p. above_at xs k p) e ∙ ap (λ b. if b then slice_get xs i else None) (le-ltb i k h)

pub place_above : (xs : List ModuleItem) (k i : ℕ) (o : Option ℕ) → o ≡ Some i → i < k → above_at xs k o ≡ slice_get xs i
place_above xs k i o e h = ap (λ p. above_at xs k p) e ∙ ap (λ b. if b then slice_get xs i else None) (lt-ltb i k h)

pub read_above : (items ys : List code.ModuleItem) (k i : ℕ) (o : Option ℕ) (r : Option (Bor code.ModuleItem)) → o ≡ Some i → i < k → ys ≡ items → IsItemAt ys i r
    → above_at (map view_module_item items) k o ≡ option_map view_module_item (option_copied r)
read_above items ys k i o r e h same is =
    place_above (map view_module_item items) k i o e h ∙ slice_get-map view_module_item items i
    ∙ ap (λ (x : Option code.ModuleItem). option_map view_module_item x) (ap (λ zs. slice_get zs i) (sym same) ∙ sym (read_at ys i r is))

-- what the factory above is for, from what stands at its place
pub made_at_place : (xs : List ModuleItem) (t : Tables) → AreTables xs t → (k : ℕ) (n : Name) (o : Option ℕ) (a : Option ModuleItem) (m : Option Name) → o ≡ first_place t.factories n
    → above_at xs k o ≡ a → m ≡ option_and_then maker_function a → m ≡ option_map (λ (x : Maker). x.function) (factory (file_of (take k xs)) n)
made_at_place xs t h k n o a m e is w =
    w ∙ ap (λ (b : Option ModuleItem). option_and_then maker_function b) (sym is) ∙ sym (factory_above xs k n o (e ∙ h.factories n))

pub parameters_at_place : (xs : List ModuleItem) (t : Tables) → AreTables xs t → (k : ℕ) (n : Name) (o : Option ℕ) (a : Option ModuleItem) (m : Option (List Parameter))
    → o ≡ first_place t.functions n → above_at xs k o ≡ a → m ≡ option_map parameters_of a → m ≡ option_map (λ (d : Definition). d.parameters) (function (file_of (take k xs)) n)
parameters_at_place xs t h k n o a m e is w =
    w ∙ ap (λ (b : Option ModuleItem). option_map parameters_of b) (sym is) ∙ sym (function_above xs k n o (e ∙ h.functions n))

-- ---- the function of a factory

pub unmade : (a : File) (n : Name) (r : Option (Bor Name)) (q : Option (Bor (List Parameter))) → option_copied r ≡ option_map (λ (m : Maker). m.function) (factory a n) → r ≡ None → q ≡ None
    → option_copied q ≡ option_map (λ (d : Definition). d.parameters) (made_by a n)
unmade a n r q e w is = go (factory a n) (ap (λ (p : Option (Bor Name)). option_copied p) (sym w) ∙ e)
  where
    go : (o : Option Maker) → None ≡ option_map (λ (m : Maker). m.function) o → option_copied q ≡ option_map (λ (d : Definition). d.parameters) (its_function a o)
    go None h = ap (λ (p : Option (Bor (List Parameter))). option_copied p) is
    go (Some m) h = cc

pub made : (a : File) (n : Name) (r : Option (Bor Name)) (x : Bor Name) (q : Option (List Parameter)) → option_copied r ≡ option_map (λ (m : Maker). m.function) (factory a n) → r ≡ Some x
    → q ≡ option_map (λ (d : Definition). d.parameters) (function a x.now) → q ≡ option_map (λ (d : Definition). d.parameters) (made_by a n)
made a n r x q e w is = go (factory a n) (ap (λ (p : Option (Bor Name)). option_copied p) (sym w) ∙ e)
  where
    some_same : (l m : Name) → Some l ≡ Some m → l ≡ m
    some_same l m e = cc

    go : (o : Option Maker) → Some x.now ≡ option_map (λ (m : Maker). m.function) o → q ≡ option_map (λ (d : Definition). d.parameters) (its_function a o)
    go None h = cc
    go (Some m) h = is ∙ ap (λ (l : Name). option_map (λ (d : Definition). d.parameters) (function a l)) (some_same x.now m.function h)
