-- What one item adds to factories.
use Rattle.std.proofs.Common.{◌≡◌, ◌≢◌, ◌||◌, ℕ, Bool, true, false, List, [], ◌∷◌, ◌++◌, length, map, Vec, Global, Option, Some, None, refl, sym, ap, subst, ◌∙◌, if◌then◌else◌}
use Rattle.std.proofs.lemmas.List.{append-nil, length-map}
use Rattle.std.proofs.lemmas.List.Elements.{filter_map-append}
use Rattle.std.proofs.lemmas.List.Folds.{list_any-append}
use Rattle.std.specs.List.{filter_map, cons_option, list_any}
use Rattle.std.specs.Str.{bytes_eq}
use Rattle.py_syntax.specs.BlockTrees.{ModuleItem, LineAt, view_module_item}
use Rattle.py_syntax.specs.ModuleTrees as line
use Rattle.py_syntax.specs.ModuleTrees.{view_module_line}
use Rattle.py_syntax.specs.declared.line_number.LineNumber.{LineNumber}
use Rattle.py_syntax.specs.declared.module.ModuleLine as code
use Rattle.py_syntax.specs.declared.module.ModuleLine.TheVariants as part
use Rattle.py_syntax.specs.declared.tree.ModuleItem as item
use Rattle.py_syntax.specs.declared.tree.ModuleItem.TheVariants as item_part
use Rattle.port_io.specs.declared.name.Name as text
use Rattle.py_syntax.specs.declared.constant.Const.{Const}
use Rattle.test_meaning.specs.Factory.Product.{Choice}
use Rattle.test_meaning.specs.Rules.File.{File, Fixed, choice_of, choices, file_of, generates, is_decorator, is_generated, value_in}
use Rattle.test_meaning.specs.Rules.Names.{Name, only_if}
use Rattle.test_meaning.specs.Rules.Rules.{has_right_options}
use Rattle.test_refusal.specs.Makers.SoFar.{AreAdded, IsAddedAt, StandsFor, added_in, with_choice, with_tests}
use Rattle.test_refusal.specs.declared.makers.added.Added.{Added}
use Rattle.test_refusal.specs.declared.makers.makers.Makers.{Makers}

pub choices_more : (f : File) (xs : List ModuleItem) (x : ModuleItem) (n : Name)
    → choices f (file_of (xs ++ x ∷ [])) n ≡ choices f (file_of xs) n ++ cons_option (choice_of f.constants n x) []
choices_more f xs x n = filter_map-append (choice_of f.constants n) xs (x ∷ [])

pub generated_more : (xs : List ModuleItem) (x : ModuleItem) (n : Name) → is_generated (file_of (xs ++ x ∷ [])) n ≡ (is_generated (file_of xs) n || (generates n x || false))
generated_more xs x n = list_any-append (generates n) xs (x ∷ [])

pub or_none : (a : Bool) → (a || false) ≡ a
or_none true = refl
or_none false = refl

pub chosen_or_none : (b : Bool) (c : Choice) → cons_option (if b then Some c else None) [] ≡ only_if b c
chosen_or_none true c = refl
chosen_or_none false c = refl

moved : (cs ds : List Choice) (g h : Bool) (a : Option Added) → cs ≡ ds → g ≡ h → IsAddedAt cs g a → IsAddedAt ds h a
moved cs ds g h a e d is = subst (λ (b : Bool). IsAddedAt ds b a) d (subst (λ (l : List Choice). IsAddedAt l g a) e is)

pub stands_with_option : (xs : List ModuleItem) (l : ℕ) (m o : Name) (values : List Const) (m' o' : Name) (k : ℕ) (s t : Makers) → m' ≡ m → o' ≡ o → k ≡ length values
    → ((cs : Name → List Choice) (g : Name → Bool) (vs : List Const) → length vs ≡ k → AreAdded cs g s → AreAdded (with_choice m' (record { name = o'; values = vs }) cs) g t)
    → StandsFor xs s → StandsFor (xs ++ LineAt l (line.AddOption m o values) ∷ []) t
stands_with_option xs l m o values m' o' k s t e d count step old f n =
    let x : ModuleItem = LineAt l (line.AddOption m o values) in
    let vs : List Const = map (value_in f.constants) values in
    moved _ _ _ _ (added_in t n)
    (ap (λ (y : Name). choices f (file_of xs) n ++ only_if (bytes_eq y n) (record { name = o'; values = vs })) e
    ∙ ap (λ (y : Name). choices f (file_of xs) n ++ only_if (bytes_eq m n) (record { name = y; values = vs })) d
    ∙ sym (choices_more f xs x n ∙ ap (λ ds. choices f (file_of xs) n ++ ds) (chosen_or_none (bytes_eq m n) (record { name = o; values = vs }))))
    (sym (generated_more xs x n ∙ or_none (is_generated (file_of xs) n)))
    (step (choices f (file_of xs)) (is_generated (file_of xs)) vs (length-map values (value_in f.constants) ∙ sym count) (old f) n)

pub stands_with_tests : (xs : List ModuleItem) (l : ℕ) (m : Name) (p q : Option Name) (m' : Name) (s t : Makers) → m' ≡ m
    → ((cs : Name → List Choice) (g : Name → Bool) → AreAdded cs g s → AreAdded cs (with_tests m' g) t)
    → StandsFor xs s → StandsFor (xs ++ LineAt l (line.GenerateTests m p q) ∷ []) t
stands_with_tests xs l m p q m' s t e step old f n =
    let x : ModuleItem = LineAt l (line.GenerateTests m p q) in
    moved _ _ _ _ (added_in t n)
    (sym (choices_more f xs x n ∙ append-nil (choices f (file_of xs) n)))
    (ap (λ (y : Name). is_generated (file_of xs) n || bytes_eq y n) e
    ∙ sym (generated_more xs x n ∙ ap (λ b. is_generated (file_of xs) n || b) (or_none (bytes_eq m n))))
    (step (choices f (file_of xs)) (is_generated (file_of xs)) (old f) n)

-- an item that adds nothing
abbrev pub AddsNothing : ModuleItem → Type 0
AddsNothing x = (n : Name) → ((ks : List Fixed) → choice_of ks n x ≡ None) × (generates n x ≡ false)

pub stands_still : (xs : List ModuleItem) (x : ModuleItem) (t : Makers) → AddsNothing x → StandsFor xs t → StandsFor (xs ++ x ∷ []) t
stands_still xs x t none old f n =
    moved _ _ _ _ (added_in t n)
    (sym (choices_more f xs x n ∙ ap (λ (o : Option Choice). choices f (file_of xs) n ++ cons_option o []) ((none n).0 f.constants) ∙ append-nil (choices f (file_of xs) n)))
    (sym (generated_more xs x n ∙ ap (λ b. is_generated (file_of xs) n || (b || false)) (none n).1 ∙ or_none (is_generated (file_of xs) n)))
    (old f n)

-- a line that adds nothing
pub line_adds_nothing : (z : code.ModuleLine) → ((x y : text.Name) (w : Vec Const Global) → z ≢ part.AddOption x y w) → ((x : text.Name) (y w : Option text.Name) → z ≢ part.GenerateTests x y w)
    → (l : ℕ) → AddsNothing (LineAt l (view_module_line z))
line_adds_nothing (part.Import n) h k l m = (λ ks. refl, refl)
line_adds_nothing (part.FromImport ms ns) h k l m = (λ ks. refl, refl)
line_adds_nothing (part.Constant n c) h k l m = (λ ks. refl, refl)
line_adds_nothing (part.Test ss) h k l m = (λ ks. refl, refl)
line_adds_nothing (part.Factory n f) h k l m = (λ ks. refl, refl)
line_adds_nothing (part.AddOption x y w) h k l m = absurd (h x y w refl)
line_adds_nothing (part.GenerateTests x y w) h k l m = absurd (k x y w refl)
line_adds_nothing (part.Function n ps) h k l m = (λ ks. refl, refl)

-- an item that is no line
pub item_adds_nothing : (i : item.ModuleItem) → ((n : LineNumber) (z : code.ModuleLine) → i ≢ item_part.Line n z) → AddsNothing (view_module_item i)
item_adds_nothing (item_part.Docstring n) h m = (λ ks. refl, refl)
item_adds_nothing (item_part.Line n z) h m = absurd (h n z refl)
item_adds_nothing (item_part.Function n f ps b) h m = (λ ks. refl, refl)

-- a line of no factory has right options, where others answer for decorators
pub other_line_is_right : (z : code.ModuleLine) → ((x y : text.Name) (w : Vec Const Global) → z ≢ part.AddOption x y w)
    → ((x : text.Name) (y w : Option text.Name) → z ≢ part.GenerateTests x y w) → (f above : File) (l : ℕ)
    → true ≡ (is_decorator (LineAt l (view_module_line z)) || has_right_options f above (LineAt l (view_module_line z)))
other_line_is_right (part.Import n) h k f above l = refl
other_line_is_right (part.FromImport ms ns) h k f above l = refl
other_line_is_right (part.Constant n c) h k f above l = refl
other_line_is_right (part.Test ss) h k f above l = refl
other_line_is_right (part.Factory n m) h k f above l = refl
other_line_is_right (part.AddOption x y w) h k f above l = absurd (h x y w refl)
other_line_is_right (part.GenerateTests x y w) h k f above l = absurd (k x y w refl)
other_line_is_right (part.Function n ps) h k f above l = refl
