-- The scope of an item's own line.
use Rattle.std.proofs.Common.{◌≡◌, ◌||◌, ◌&&◌, not, ◌+◌, ℕ, Bool, false, List, [], ◌∷◌, ◌++◌, take, drop, drop-cons, add-one, map, length, get_or, suc, ◌<◌, Option, Some, None, refl, sym, ap, subst, ◌∙◌, if◌then◌else◌}
use Rattle.std.proofs.lemmas.Slice.Eq.{bytes_eq-Decides}
use Rattle.std.specs.List.{drop-map}
use Rattle.std.specs.Str.{bytes_eq}
use Rattle.name_table.specs.Places.{first_place, nowhere}
use Rattle.py_syntax.specs.BlockTrees.{view_module, view_module_item}
use Rattle.py_syntax.specs.declared.tree.ModuleItem as code
use Rattle.py_syntax.specs.declared.tree.Module.{Module}
use Rattle.test_refusal.specs.Items.Functions.{function_name, is_decorated_behind}
use Rattle.test_refusal.specs.Makers.SoFar.{IsTestAt, StandsAbove, StandsFor}
use Rattle.test_refusal.specs.declared.makers.makers.Makers.{Makers}
use Rattle.test_meaning.specs.Rules.File.{file_of, is_decorator, is_function, is_made_name, parameters_of}
use Rattle.test_meaning.specs.Rules.Rules.{first_broken, has_misfit, has_right_options, lacks_parameters}
use Rattle.test_meaning.specs.Rules.Uses.{Around, file_lines, inner_lines}
use Rattle.test_meaning.specs.declared.rules.rule.Refusal.{Refusal}
use Rattle.test_names.specs.Scope.Around.{around_in, file_in, names_in}
use Rattle.test_names.specs.declared.scope.scope.FileScope.{FileScope}
use Rattle.test_refusal.specs.Pass.{IsSeen, first_of_item}
use Rattle.test_refusal.specs.Places.{IsScopeOf, Stands, file_of_whole, items_to, place_of}
use Rattle.test_refusal.specs.declared.place.Place.{Place}
use Rattle.test_refusal.specs.declared.seen.Seen.{Seen}
use Rattle.test_refusal.specs.declared.whole.Whole.{Whole}
use Rattle.test_refusal.proofs.Parts.{misfit, test_at}
use Rattle.test_refusal.proofs.Steps.{HasPassed, stopped, went_on, whole_list}

-- a table in which no name has a place
pub no_name : (ps : List (List ℕ × ℕ)) → first_place ps ≡ nowhere → names_in ps ≡ []
no_name [] e = refl
no_name (p ∷ ps) e =
    let none : first_place (p ∷ ps) p.0 ≡ None = ap (λ (s : List ℕ → Option ℕ). s p.0) e in
    let some : first_place (p ∷ ps) p.0 ≡ Some p.1 = ap (λ b. if b then Some p.1 else first_place ps p.0) ((bytes_eq-Decides p.0 p.0).1 refl) in
    let no : Some p.1 ≡ None = sym some ∙ none in
    cc

-- ---- an item in its place

pub of_stands : (items ys bs : List code.ModuleItem) (k : ℕ) (x : code.ModuleItem) → k < length items → ys ≡ items → x ≡ get_or items k x → bs ≡ drop (k + 1) ys
    → drop k (map view_module_item items) ≡ view_module_item x ∷ map view_module_item bs
of_stands items ys bs k x h same is rest =
    drop-map view_module_item k items
    ∙ ap (λ zs. map view_module_item zs) (drop-cons items k x h ∙ ap (λ y. y ∷ drop (suc k) items) (sym is)
    ∙ ap (λ zs. x ∷ zs) (ap (λ j. drop j items) (sym (add-one k)) ∙ ap (λ zs. drop (k + 1) zs) (sym same) ∙ sym rest))

pub stands : (p : Place) → Stands p → view_module p.whole.now.file.now ≡ (place_of p).above ++ (place_of p).item ∷ (place_of p).below
stands p st = whole_list p.above (view_module p.whole.now.file.now) (place_of p).below (place_of p).item st

pub misfit_at : (p : Place) (d : Bool) → Stands p → d ≡ is_decorated_behind (place_of p).above → has_misfit (file_of_whole p.whole.now) (place_of p)
    ≡ (is_function (place_of p).item && lacks_parameters d (is_made_name (file_of_whole p.whole.now) (function_name (place_of p).item)) (parameters_of (place_of p).item))
misfit_at p d st is = misfit (view_module p.whole.now.file.now) (place_of p).above (place_of p).below (place_of p).item d (stands p st) is

pub tested_at : (p : Place) (d t : Bool) → Stands p → d ≡ is_decorated_behind (place_of p).above
    → t ≡ (is_function (place_of p).item && (d && not (is_made_name (file_of_whole p.whole.now) (function_name (place_of p).item))))
    → IsTestAt (file_of_whole p.whole.now) (place_of p).above (place_of p).item t
tested_at p d t st is e = test_at (view_module p.whole.now.file.now) (place_of p).above (place_of p).below (place_of p).item d t (stands p st) is e

-- what the scope says of the options of an item that is no decorator
pub undecorated : (p : Place) (s : FileScope) → IsScopeOf p s → (t : Makers) → StandsFor (place_of p).above t → (b : Bool)
    → (StandsAbove s t → b ≡ (is_decorator (place_of p).item || has_right_options (file_in s) (around_in s).above (place_of p).item))
    → is_decorator (place_of p).item ≡ false → b ≡ has_right_options (file_of_whole p.whole.now) (file_of (place_of p).above) (place_of p).item
undecorated p s is t old b h other =
    h (subst (λ (i : ℕ). StandsFor (take i (view_module s.whole.now)) t) (sym is.above) (subst (λ (m : Module). StandsFor (take p.above (view_module m)) t) (sym is.whole) old))
    ∙ ap (λ c. c || has_right_options (file_in s) (around_in s).above (place_of p).item) other
    ∙ ap (λ (m : Module). has_right_options (file_of (view_module m)) (around_in s).above (place_of p).item) is.whole
    ∙ ap (λ (a : Around). has_right_options (file_of_whole p.whole.now) a.above (place_of p).item) is.around

-- what the scope says of a block
pub inner_at : (p : Place) (s : FileScope) → IsScopeOf p s
    → first_broken (file_in s) (inner_lines (around_in s).above (place_of p).item) ≡ first_broken (file_of_whole p.whole.now) (inner_lines (file_of (place_of p).above) (place_of p).item)
inner_at p s is =
    ap (λ (m : Module). first_broken (file_of (view_module m)) (inner_lines (around_in s).above (place_of p).item)) is.whole
    ∙ ap (λ (a : Around). first_broken (file_of_whole p.whole.now) (inner_lines a.above (place_of p).item)) is.around

-- ---- from an item to the next

pub seen_above : (w : Whole) (p : Place) (k : ℕ) (s : Seen) → p.whole.now ≡ w → p.above ≡ k → HasPassed (file_of_whole w) (view_module w.file.now) k s
    → IsSeen (file_of_whole p.whole.now) (place_of p).above s
seen_above w p k s e d h =
    subst (λ (v : Whole). IsSeen (file_of_whole v) (take p.above (view_module v.file.now)) s) (sym e)
    (subst (λ (j : ℕ). IsSeen (file_of_whole w) (take j (view_module w.file.now)) s) (sym d) h.seen)

moved : (w : Whole) (p : Place) (k : ℕ) (s : Seen) → p.whole.now ≡ w → p.above ≡ k → HasPassed (file_of_whole w) (view_module w.file.now) k s
    → HasPassed (file_of_whole p.whole.now) (view_module p.whole.now.file.now) p.above s
moved w p k s e d h =
    subst (λ (v : Whole). HasPassed (file_of_whole v) (view_module v.file.now) p.above s) (sym e)
    (subst (λ (j : ℕ). HasPassed (file_of_whole w) (view_module w.file.now) j s) (sym d) h)

pub passed_on : (w : Whole) (p : Place) (k : ℕ) (s t : Seen) → Stands p → p.whole.now ≡ w → p.above ≡ k → HasPassed (file_of_whole w) (view_module w.file.now) k s
    → (first_of_item (file_of_whole p.whole.now) (place_of p) ≡ None) × IsSeen (file_of_whole p.whole.now) (items_to p) t → HasPassed (file_of_whole w) (view_module w.file.now) (k + 1) t
passed_on w p k s t st e d h is =
    subst (λ (v : Whole). HasPassed (file_of_whole v) (view_module v.file.now) (k + 1) t) e
    (subst (λ (j : ℕ). HasPassed (file_of_whole p.whole.now) (view_module p.whole.now.file.now) (j + 1) t) d
    (went_on (file_of_whole p.whole.now) (view_module p.whole.now.file.now) (place_of p).below p.above (place_of p).item s t st (moved w p k s e d h) is))

pub stopped_there : (w : Whole) (p : Place) (k : ℕ) (s : Seen) (q : Refusal) → Stands p → p.whole.now ≡ w → p.above ≡ k → HasPassed (file_of_whole w) (view_module w.file.now) k s
    → first_of_item (file_of_whole p.whole.now) (place_of p) ≡ Some q → first_broken (file_of_whole w) (file_lines (file_of_whole w)) ≡ Some q
stopped_there w p k s q st e d h is =
    subst (λ (v : Whole). first_broken (file_of_whole v) (file_lines (file_of_whole v)) ≡ Some q) e
    (stopped (file_of_whole p.whole.now) (view_module p.whole.now.file.now) (place_of p).below p.above (place_of p).item s q st (moved w p k s e d h) is)
