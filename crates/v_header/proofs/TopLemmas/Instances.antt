-- The names of modules that are instantiated, and the modules that aren't.
use Rattle.std.proofs.Common.{◌≡◌, ℕ, ◌+◌, ◌<◌, ◌≤◌, Bool, true, false, not, ◌||◌, List, [], ◌∷◌, ◌++◌, length, map, drop, get_or, Option, None, Some, is_some, bytes_eq, cond, if◌then◌else◌, refl, sym, ap, subst, ◌∙◌}
use Rattle.std.specs.Borrow.{Bor}
use Rattle.std.specs.List.{list_any}
use Rattle.std.specs.Option.{option_or}
use Rattle.std.specs.Prelude.{option_to_list}
use Rattle.std.proofs.lemmas.List.{drop_all, drop_more, append-nil}
use Rattle.std.proofs.lemmas.List.Folds.{list_any-append}
use Rattle.name_table.specs.Places.{first_place, noted}
use Rattle.v_syntax.specs.declared.item.Item.{Item}
use Rattle.v_syntax.specs.declared.source.Module.{Module}
use Rattle.v_syntax.specs.SourceTrees.{ItemTree, ItemAt, Ports, Nets, Registers, Integers, Parameters, Drivers, Always, Initial, Instance, ModuleTree, view_item, view_module}
use Rattle.v_flat.specs.Headers.{items_in}
use Rattle.v_flat.specs.Design.{instance_names, only, unused, used_modules}
use Rattle.v_header.specs.Top.Found.{module_in}
use Rattle.v_header.specs.Top.Modules.{AddsNames, AreNames}

-- ---- names that are added

abbrev pub Places : Type 0
Places = List (List ℕ × ℕ)

or_nothing : (b : Bool) → b ≡ (b || false)
or_nothing true = refl
or_nothing false = refl

or_assoc : (a b c : Bool) → ((a || b) || c) ≡ (a || (b || c))
or_assoc true b c = refl
or_assoc false b c = refl

some_noted : (o : Option ℕ) (b : Bool) → is_some (option_or o (if b then Some 0 else None)) ≡ (is_some o || (b || false))
some_noted (Some k) b = refl
some_noted None true = refl
some_noted None false = refl

pub one_noted : (old new : Places) (k : List ℕ) → ((n : List ℕ) → first_place new n ≡ noted k 0 (first_place old) n) → AddsNames old new (k ∷ [])
one_noted old new k h n = ap (λ (o : Option ℕ). is_some o) (h n) ∙ some_noted (first_place old n) (bytes_eq n k)

pub none_noted : (old : Places) → AddsNames old old []
none_noted old n = or_nothing (is_some (first_place old n))

adds_then : (x y z : Places) (ns ms : List (List ℕ)) → AddsNames x y ns → AddsNames y z ms → AddsNames x z (ns ++ ms)
adds_then x y z ns ms h g n =
    g n
    ∙ ap (λ (b : Bool). b || list_any (bytes_eq n) ms) (h n)
    ∙ or_assoc (is_some (first_place x n)) (list_any (bytes_eq n) ns) (list_any (bytes_eq n) ms)
    ∙ ap (λ (b : Bool). is_some (first_place x n) || b) (sym (list_any-append (bytes_eq n) ns ms))

-- ---- items

first_item : (i : ItemTree) (is : List ItemTree) → instance_names (i ∷ is) ≡ instance_names (i ∷ []) ++ instance_names is
first_item (ItemAt p (Ports h ns)) is = refl
first_item (ItemAt p (Nets r ns)) is = refl
first_item (ItemAt p (Registers r ns)) is = refl
first_item (ItemAt p (Integers ns)) is = refl
first_item (ItemAt p (Parameters k r ps)) is = refl
first_item (ItemAt p (Drivers ds)) is = refl
first_item (ItemAt p (Always c s)) is = refl
first_item (ItemAt p (Initial s)) is = refl
first_item (ItemAt p (Instance m values i ports)) is = refl

-- what a list of names is with those of the rest that is left
unfoldable pub Adding : {A : Type 0} → (List A → List (List ℕ)) → List A → ℕ → Places → Places → Type 0
Adding f xs i old now = (new : Places) → AddsNames now new (f (drop i xs)) → AddsNames old new (f xs)

pub adding_none : {A : Type 0} (f : List A → List (List ℕ)) (xs : List A) (old : Places) → Adding f xs 0 old old
unfolding Adding
adding_none f xs old new h = h

adding_more : {A : Type 0} (f : List A → List (List ℕ)) → ((x : A) (xs : List A) → f (x ∷ xs) ≡ f (x ∷ []) ++ f xs)
    → (xs : List A) (i : ℕ) (x : A) (old now next : Places) → i < length xs → x ≡ get_or xs i x → AddsNames now next (f (x ∷ [])) → Adding f xs i old now
    → Adding f xs (i + 1) old next
unfolding Adding
adding_more {A} f split xs i x old now next h q made so_far new g =
    let e : f (drop i xs) ≡ f (x ∷ []) ++ f (drop (i + 1) xs) =
    ap (λ (ys : List A). f ys) (drop_more xs i x h) ∙ ap (λ (y : A). f (y ∷ drop (i + 1) xs)) (sym q) ∙ split x (drop (i + 1) xs) in
    so_far new (subst (λ (ns : List (List ℕ)). AddsNames now new ns) (sym e) (adds_then now next new (f (x ∷ [])) (f (drop (i + 1) xs)) made g))

pub adding_all : {A : Type 0} (f : List A → List (List ℕ)) (xs : List A) (i : ℕ) (old new : Places) → f [] ≡ [] → length xs ≤ i → Adding f xs i old new
    → AddsNames old new (f xs)
unfolding Adding
adding_all {A} f xs i old new e h so_far =
    so_far new (subst (λ (ns : List (List ℕ)). AddsNames new new ns) (sym (ap (λ (ys : List A). f ys) (drop_all i xs h) ∙ e)) (none_noted new))

abbrev pub names_of_items : List Item → List (List ℕ)
names_of_items xs = instance_names (map view_item xs)

pub items_more : (xs : List Item) (i : ℕ) (x : Item) (old now next : Places) → i < length xs → x ≡ get_or xs i x → AddsNames now next (instance_names (view_item x ∷ []))
    → Adding names_of_items xs i old now → Adding names_of_items xs (i + 1) old next
items_more = adding_more names_of_items (λ x xs. first_item (view_item x) (map view_item xs))

-- ---- modules

abbrev pub names_of_modules : List Module → List (List ℕ)
names_of_modules xs = used_modules (map view_module xs)

first_module : (x : Module) (xs : List Module) → names_of_modules (x ∷ xs) ≡ names_of_modules (x ∷ []) ++ names_of_modules xs
first_module x xs = ap (λ (ns : List (List ℕ)). ns ++ names_of_modules xs) (sym (append-nil (instance_names (items_in (view_module x)))))

pub modules_more : (xs : List Module) (i : ℕ) (x : Module) (old now next : Places) → i < length xs → x ≡ get_or xs i x
    → AddsNames now next (instance_names (map view_item x.items.items)) → Adding names_of_modules xs i old now → Adding names_of_modules xs (i + 1) old next
modules_more xs i x old now next h q made so_far =
    adding_more names_of_modules first_module xs i x old now next h q
    (subst (λ (ns : List (List ℕ)). AddsNames now next ns) (sym (append-nil (instance_names (map view_item x.items.items)))) made) so_far

pub names_alone : (ns : List (List ℕ)) (old new : Places) → ((n : List ℕ) → first_place old n ≡ None) → AddsNames old new ns → AreNames ns new
names_alone ns old new e h n = h n ∙ ap (λ (o : Option ℕ). is_some o || list_any (bytes_eq n) ns) (e n)

-- ---- the only one that isn't instantiated

-- the one that was found, and those that are left
unfoldable pub Leaves : List Module → Places → ℕ → Option ModuleTree → Type 0
Leaves xs names i found =
    (ns : List (List ℕ)) → AreNames ns names → only (option_to_list found ++ unused ns (map view_module (drop i xs))) ≡ only (unused ns (map view_module xs))

pub leaves_none : (xs : List Module) (names : Places) → Leaves xs names 0 None
unfolding Leaves
leaves_none xs names ns h = refl

unused_first : (ns : List (List ℕ)) (names : Places) (xs : List Module) (i : ℕ) (x : Module) (b : Bool) → AreNames ns names → i < length xs → x ≡ get_or xs i x
    → is_some (first_place names x.name.name) ≡ b
    → unused ns (map view_module (drop i xs)) ≡ (if not b then view_module x ∷ unused ns (map view_module (drop (i + 1) xs)) else unused ns (map view_module (drop (i + 1) xs)))
unused_first ns names xs i x b are h q e =
    ap (λ (ys : List Module). unused ns (map view_module ys)) (drop_more xs i x h)
    ∙ ap (λ (y : Module). unused ns (map view_module (y ∷ drop (i + 1) xs))) (sym q)
    ∙ ap (λ (c : Bool). cond (not c) (view_module x ∷ unused ns (map view_module (drop (i + 1) xs))) (unused ns (map view_module (drop (i + 1) xs))))
    (sym (are x.name.name) ∙ e)

leaves_used : (xs : List Module) (names : Places) (i : ℕ) (x : Module) (found : Option ModuleTree) → i < length xs → x ≡ get_or xs i x
    → is_some (first_place names x.name.name) ≡ true → Leaves xs names i found → Leaves xs names (i + 1) found
unfolding Leaves
leaves_used xs names i x found h q e so_far ns are =
    ap (λ (ms : List ModuleTree). only (option_to_list found ++ ms)) (sym (unused_first ns names xs i x true are h q e)) ∙ so_far ns are

leaves_found : (xs : List Module) (names : Places) (i : ℕ) (x : Module) → i < length xs → x ≡ get_or xs i x
    → is_some (first_place names x.name.name) ≡ false → Leaves xs names i None → Leaves xs names (i + 1) (Some (view_module x))
unfolding Leaves
leaves_found xs names i x h q e so_far ns are =
    ap (λ (ms : List ModuleTree). only ms) (sym (unused_first ns names xs i x false are h q e)) ∙ so_far ns are

leaves_two : (xs : List Module) (names : Places) (i : ℕ) (x : Module) (y : ModuleTree) (ns : List (List ℕ)) → i < length xs → x ≡ get_or xs i x
    → is_some (first_place names x.name.name) ≡ false → Leaves xs names i (Some y) → AreNames ns names → None ≡ only (unused ns (map view_module xs))
unfolding Leaves
leaves_two xs names i x y ns h q e so_far are =
    ap (λ (ms : List ModuleTree). only (y ∷ ms)) (sym (unused_first ns names xs i x false are h q e)) ∙ so_far ns are

only_found : (found : Option ModuleTree) → found ≡ only (option_to_list found ++ [])
only_found None = refl
only_found (Some m) = refl

leaves_all : (xs : List Module) (names : Places) (i : ℕ) (found : Option ModuleTree) (ns : List (List ℕ)) → length xs ≤ i → Leaves xs names i found
    → AreNames ns names → found ≡ only (unused ns (map view_module xs))
unfolding Leaves
leaves_all xs names i found ns h so_far are =
    only_found found
    ∙ ap (λ (ys : List Module). only (option_to_list found ++ unused ns (map view_module ys))) (sym (drop_all i xs h))
    ∙ so_far ns are

-- ---- the same of the module that the code refers to

pub used_here : (xs : List Module) (names : Places) (i : ℕ) (x : Module) (found more : Option (Bor Module)) → i < length xs → x ≡ get_or xs i x
    → is_some (first_place names x.name.name) ≡ true → more ≡ found → Leaves xs names i (module_in found) → Leaves xs names (i + 1) (module_in more)
used_here xs names i x found more h q e same so_far =
    subst (λ (o : Option (Bor Module)). Leaves xs names (i + 1) (module_in o)) (sym same) (leaves_used xs names i x (module_in found) h q e so_far)

pub found_here : (xs : List Module) (names : Places) (i : ℕ) (x : Module) (found more : Option (Bor Module)) → i < length xs → x ≡ get_or xs i x
    → is_some (first_place names x.name.name) ≡ false → is_some found ≡ false → module_in more ≡ Some (view_module x) → Leaves xs names i (module_in found)
    → Leaves xs names (i + 1) (module_in more)
found_here xs names i x None more h q e f made so_far =
    subst (λ (o : Option ModuleTree). Leaves xs names (i + 1) o) (sym made) (leaves_found xs names i x h q e so_far)
found_here xs names i x (Some y) more h q e f made so_far = absurd (cc)

pub two_here : (xs : List Module) (names : Places) (i : ℕ) (x : Module) (found : Option (Bor Module)) → i < length xs → x ≡ get_or xs i x
    → is_some (first_place names x.name.name) ≡ false → is_some found ≡ true → Leaves xs names i (module_in found)
    → (ns : List (List ℕ)) → AreNames ns names → None ≡ only (unused ns (map view_module xs))
two_here xs names i x None h q e f so_far ns are = absurd (cc)
two_here xs names i x (Some y) h q e f so_far ns are = leaves_two xs names i x (view_module y.now) ns h q e so_far are

pub all_here : (xs : List Module) (names : Places) (i : ℕ) (found : Option (Bor Module)) → length xs ≤ i → Leaves xs names i (module_in found)
    → (ns : List (List ℕ)) → AreNames ns names → module_in found ≡ only (unused ns (map view_module xs))
all_here xs names i found h so_far ns are = leaves_all xs names i (module_in found) ns h so_far are
