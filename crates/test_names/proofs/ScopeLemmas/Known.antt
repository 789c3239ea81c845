-- What the tables say of the definitions of a whole file, and of those above an item.
use Rattle.std.proofs.Common.{◌≡◌, ℕ, nat_lt, Bool, true, false, ◌||◌, List, [], ◌∷◌, length, map, take, slice_get, Bor, option_copied, Option, Some, None, refl, sym, ap, ◌∙◌, if◌then◌else◌}
use Rattle.std.specs.List.{list_any, position_from}
use Rattle.std.specs.Option.{is_some, option_map, option_map_or, option_and_then}
use Rattle.std.specs.Str.{bytes_eq}
use Rattle.std.specs.Slice.{IsItemAt}
use Rattle.std.proofs.lemmas.Bool.{ltb-true, ltb-false}
use Rattle.std.proofs.lemmas.List.Folds.{list_any-append}
use Rattle.std.proofs.lemmas.Option.{slice_get-map, slice_get_past, slice_get_read}
use Rattle.py_syntax.specs.BlockTrees.{ModuleItem, view_module_item}
use Rattle.py_syntax.specs.declared.tree.ModuleItem as code
use Rattle.py_syntax.specs.declared.module.Parameter.{Parameter}
use Rattle.name_table.specs.Places.{first_place}
use Rattle.test_meaning.specs.Rules.File.{Definition, built_in, factory, file_of, fixed_of, function, is_known, parameters_of}
use Rattle.test_meaning.specs.Rules.Names.{Name, is_among}
use Rattle.test_names.specs.Definitions.Definitions.{defines, is_defined}
use Rattle.test_names.specs.declared.definitions.item.Kind.TheVariants as kind
use Rattle.test_names.proofs.DefinitionsLemmas.ByKind.{names_are_defined, constants_are_defined, functions_are_defined, factories_are_defined, functions_have_parameters}
use Rattle.test_names.proofs.DefinitionsLemmas.FirstPlaces.{above_by_place, any_by_place, found_at_place}
use Rattle.test_names.specs.Scope.Around.{names_in}
use Rattle.test_names.specs.Scope.Tables.{AreTables}
use Rattle.test_names.specs.declared.scope.tables.Tables.{Tables}

-- a name that has a place
pub local : (ps : List (Name × ℕ)) (n : Name) → is_some (first_place ps n) ≡ is_among n (names_in ps)
local [] n = refl
local (p ∷ ps) n = go (bytes_eq n p.0) (local ps n)
  where
    go : (b : Bool) → is_some (first_place ps n) ≡ is_among n (names_in ps) → is_some (if b then Some p.1 else first_place ps n) ≡ (b || is_among n (names_in ps))
    go true h = refl
    go false h = h

-- a name of the file, or built in
pub known : (xs : List ModuleItem) (t : Tables) → AreTables xs t → (n : Name)
    → (is_some (first_place t.names n) || is_among n built_in) ≡ is_known (file_of xs) n
known xs t h n =
    ap (λ o. is_some o || is_among n built_in) (h.names n)
    ∙ ap (λ b. b || is_among n built_in) (sym (any_by_place (defines n) xs) ∙ sym (names_are_defined xs n))
    ∙ sym (list_any-append (bytes_eq n) (file_of xs).names built_in)

-- a name that the table has
pub of_table : (xs : List ModuleItem) (t : Tables) → AreTables xs t → (n : Name) (b : Bool) (o : Option ℕ)
    → b ≡ is_some o → o ≡ first_place t.names n → b ≡ true → b ≡ is_known (file_of xs) n
of_table xs t h n b o e f w =
    w ∙ ap (λ c. c || is_among n built_in) (sym w ∙ e ∙ ap (λ (p : Option ℕ). is_some p) f) ∙ known xs t h n

-- a name that it hasn't
pub off_table : (xs : List ModuleItem) (t : Tables) → AreTables xs t → (n : Name) (b k : Bool) (o : Option ℕ)
    → b ≡ is_some o → o ≡ first_place t.names n → b ≡ false → k ≡ is_among n built_in → k ≡ is_known (file_of xs) n
off_table xs t h n b k o e f w p =
    p ∙ ap (λ c. c || is_among n built_in) (sym w ∙ e ∙ ap (λ (q : Option ℕ). is_some q) f) ∙ known xs t h n

pub constant : (xs : List ModuleItem) (t : Tables) → AreTables xs t → (n : Name) → is_some (first_place t.constants n) ≡ is_some (fixed_of (file_of xs).constants n)
constant xs t h n =
    ap (λ (o : Option ℕ). is_some o) (h.constants n) ∙ sym (any_by_place (is_defined kind.Constant n) xs) ∙ sym (constants_are_defined xs n)

-- an item above passes a test
above : (p : ModuleItem → Bool) (xs : List ModuleItem) (k : ℕ) (o : Option ℕ) → o ≡ position_from p 0 xs
    → option_map_or (λ i. nat_lt i k) o false ≡ list_any p (take k xs)
above p xs k o h = ap (λ q. option_map_or (λ i. nat_lt i k) q false) h ∙ sym (above_by_place p xs k)

pub constant_above : (xs : List ModuleItem) (t : Tables) → AreTables xs t → (k : ℕ) (n : Name)
    → option_map_or (λ i. nat_lt i k) (first_place t.constants n) false ≡ is_some (fixed_of (file_of (take k xs)).constants n)
constant_above xs t h k n = above (is_defined kind.Constant n) xs k (first_place t.constants n) (h.constants n) ∙ sym (constants_are_defined (take k xs) n)

pub function_above : (xs : List ModuleItem) (t : Tables) → AreTables xs t → (k : ℕ) (n : Name)
    → option_map_or (λ i. nat_lt i k) (first_place t.functions n) false ≡ is_some (function (file_of (take k xs)) n)
function_above xs t h k n = above (is_defined kind.Function n) xs k (first_place t.functions n) (h.functions n) ∙ sym (functions_are_defined (take k xs) n)

pub factory_above : (xs : List ModuleItem) (t : Tables) → AreTables xs t → (k : ℕ) (n : Name)
    → option_map_or (λ i. nat_lt i k) (first_place t.factories n) false ≡ is_some (factory (file_of (take k xs)) n)
factory_above xs t h k n = above (is_defined kind.Factory n) xs k (first_place t.factories n) (h.factories n) ∙ sym (factories_are_defined (take k xs) n)

-- the parameters of a function of the file are those of the item with its number
pub parameters : (xs : List ModuleItem) (t : Tables) → AreTables xs t → (n : Name)
    → option_map (λ (d : Definition). d.parameters) (function (file_of xs) n) ≡ option_map parameters_of (option_and_then (slice_get xs) (first_place t.functions n))
parameters xs t h n =
    functions_have_parameters xs n
    ∙ ap (λ (o : Option ModuleItem). option_map parameters_of o)
    (found_at_place (is_defined kind.Function n) xs ∙ ap (λ o. option_and_then (slice_get xs) o) (sym (h.functions n)))

pub no_parameters : (xs : List ModuleItem) (t : Tables) → AreTables xs t → (n : Name) (o : Option ℕ) (r : Option (Bor (List Parameter)))
    → r ≡ None → o ≡ first_place t.functions n → o ≡ None → option_copied r ≡ option_map (λ (d : Definition). d.parameters) (function (file_of xs) n)
no_parameters xs t h n o r e f w =
    ap (λ (p : Option (Bor (List Parameter))). option_copied p) e
    ∙ sym (parameters xs t h n ∙ ap (λ p. option_map parameters_of (option_and_then (slice_get xs) p)) (sym f ∙ w))

pub its_parameters : (items ys : List code.ModuleItem) (t : Tables) → AreTables (map view_module_item items) t → (n : Name) (k : ℕ) (o : Option ℕ) (r : Option (List Parameter))
    → r ≡ option_map parameters_of (slice_get (map view_module_item ys) k) → ys ≡ items → o ≡ first_place t.functions n → o ≡ Some k
    → r ≡ option_map (λ (d : Definition). d.parameters) (function (file_of (map view_module_item items)) n)
its_parameters items ys t h n k o r e is f w =
    e ∙ ap (λ zs. option_map parameters_of (slice_get (map view_module_item zs) k)) is
    ∙ sym (parameters (map view_module_item items) t h n ∙ ap (λ p. option_map parameters_of (option_and_then (slice_get (map view_module_item items)) p)) (sym f ∙ w))

-- ---- the item with a number

gotten : (xs : List code.ModuleItem) (i : ℕ) (r : Option (Bor code.ModuleItem)) → IsItemAt xs i r
    → option_map parameters_of (option_map view_module_item (option_copied r)) ≡ option_map parameters_of (slice_get (map view_module_item xs) i)
gotten xs i r h = ap (λ (o : Option code.ModuleItem). option_map parameters_of (option_map view_module_item o)) (item r h) ∙ ap (λ (o : Option ModuleItem). option_map parameters_of o) (sym (slice_get-map view_module_item xs i))
  where
    item : (o : Option (Bor code.ModuleItem)) → IsItemAt xs i o → option_copied o ≡ slice_get xs i
    item None g = sym (slice_get_past xs i (ltb-false i (length xs) (sym g.0)))
    item (Some x) g = sym (slice_get_read xs (length xs) i x.now refl (ltb-true i (length xs) (sym g.0)) g.1)

pub nothing_at : (xs : List code.ModuleItem) (i : ℕ) (r : Option (Bor code.ModuleItem)) (p : Option (Bor (List Parameter))) → IsItemAt xs i r → r ≡ None → p ≡ None
    → option_copied p ≡ option_map parameters_of (slice_get (map view_module_item xs) i)
nothing_at xs i r p h w q =
    ap (λ (o : Option (Bor (List Parameter))). option_copied o) q
    ∙ ap (λ (o : Option (Bor code.ModuleItem)). option_map parameters_of (option_map view_module_item (option_copied o))) (sym w) ∙ gotten xs i r h

pub found_at : (xs : List code.ModuleItem) (i : ℕ) (r : Option (Bor code.ModuleItem)) (x : Bor code.ModuleItem) (ps : List Parameter) → IsItemAt xs i r → r ≡ Some x
    → ps ≡ parameters_of (view_module_item x.now) → Some ps ≡ option_map parameters_of (slice_get (map view_module_item xs) i)
found_at xs i r x ps h w q =
    ap (λ qs. Some qs) q
    ∙ ap (λ (o : Option (Bor code.ModuleItem)). option_map parameters_of (option_map view_module_item (option_copied o))) (sym w) ∙ gotten xs i r h
