-- From an item to the next.
use Rattle.std.proofs.Common.{◌≡◌, ◌<◌, ◌≤◌, ◌+◌, ℕ, suc, List, [], ◌∷◌, ◌++◌, length, map, take, drop, drop-cons, get_or, Option, None, sym, ap, subst, ◌∙◌}
use Rattle.std.proofs.lemmas.List.{append_assoc, map-append, map_more, take-append-drop, take_all}
use Rattle.py_syntax.specs.BlockTrees.{view_module_item}
use Rattle.py_syntax.specs.BlockTrees as tree
use Rattle.py_syntax.specs.declared.module.Setting.{Setting}
use Rattle.py_syntax.specs.declared.tree.ModuleItem.{ModuleItem}
use Rattle.test_meaning.specs.Body.BodyTrees.{Case}
use Rattle.test_meaning.specs.Body.Views.{view_case}
use Rattle.test_meaning.specs.declared.body.file.TestCase.{TestCase}
use Rattle.test_meaning.specs.Cases.{cases, own_test}
use Rattle.test_meaning.specs.Rules.File.{File, file_of, places}
use Rattle.test_meaning.specs.Rules.Rules.{refusal}
use Rattle.std.specs.Prelude.{option_copied}
use Rattle.test_file.specs.List.SoFar.{AreFew, IsAbove, cases_among, file_of_whole, function_at, generated}
use Rattle.test_file.specs.declared.list.above.Above.{Above}
use Rattle.test_file.specs.declared.list.whole.Whole.{Whole}
use Rattle.test_file.proofs.ListLemmas.Behind.{cases_with_item, tests_at_item}
use Rattle.test_file.proofs.ListLemmas.Steps.{few_generated}

-- It is known of these items what they have, and their tests.
pub record HasWalked (w : Whole) (done : List ModuleItem) (a : Above) (ts : List TestCase) : Type 0 where
  pub above : IsAbove (file_of_whole w) (map view_module_item done) a
  pub tests : map view_case ts ≡ cases_among (file_of_whole w) (places (map view_module_item done))

-- an item among others
among : (items : List ModuleItem) (i : ℕ) (x : ModuleItem) → i < length items → x ≡ get_or items i x
    → map view_module_item items ≡ map view_module_item (take i items) ++ view_module_item x ∷ map view_module_item (drop (suc i) items)
among items i x h is =
    ap (λ (ys : List ModuleItem). map view_module_item ys)
    (sym (take-append-drop i items) ∙ ap (λ (ys : List ModuleItem). take i items ++ ys) (drop-cons items i x h ∙ ap (λ (y : ModuleItem). y ∷ drop (suc i) items) (sym is)))
    ∙ map-append view_module_item (take i items) (x ∷ drop (suc i) items)

one_more : (items : List ModuleItem) (i : ℕ) (x : ModuleItem) → i < length items → x ≡ get_or items i x
    → map view_module_item (take (i + 1) items) ≡ map view_module_item (take i items) ++ view_module_item x ∷ []
one_more items i x h is = map_more view_module_item items i x h ∙ ap (λ (y : ModuleItem). map view_module_item (take i items) ++ view_module_item y ∷ []) (sym is)

pub few_there : (w : Whole) (i : ℕ) (x : ModuleItem) (a : Above) (tests : List TestCase) → i < length w.values.now.items.now → x ≡ get_or w.values.now.items.now i x
    → refusal (file_of_whole w) ≡ None → HasWalked w (take i w.values.now.items.now) a tests → AreFew (file_of_whole w) a (view_module_item x)
few_there w i x a tests h is none so =
    few_generated (map view_module_item w.values.now.items.now) (map view_module_item (take i w.values.now.items.now)) (map view_module_item (drop (suc i) w.values.now.items.now))
    (view_module_item x) a (among w.values.now.items.now i x h is) none so.above

pub walked_on : (w : Whole) (i : ℕ) (x : ModuleItem) (a b : Above) (tests more all : List TestCase) → i < length w.values.now.items.now → x ≡ get_or w.values.now.items.now i x
    → HasWalked w (take i w.values.now.items.now) a tests
    → map view_case more ≡ map view_case tests ++ own_test (file_of_whole w) (function_at a.count (option_copied a.settings) (view_module_item x))
    → ((xs : List tree.ModuleItem) → IsAbove (file_of_whole w) xs a → map view_case all ≡ map view_case more ++ generated (file_of_whole w) (file_of xs) (view_module_item x))
    → ((f : File) (xs : List tree.ModuleItem) → IsAbove f xs a → IsAbove f (xs ++ view_module_item x ∷ []) b)
    → HasWalked w (take (i + 1) w.values.now.items.now) b all
walked_on w i x a b tests more all h is so own made step =
    let items : List ModuleItem = w.values.now.items.now in
    let f : File = file_of_whole w in
    let xs : List tree.ModuleItem = map view_module_item (take i items) in
    let y : tree.ModuleItem = view_module_item x in
    record {
      above = subst (λ (zs : List tree.ModuleItem). IsAbove f zs b) (sym (one_more items i x h is)) (step f xs so.above);
      tests =
          made xs so.above ∙ ap (λ (cs : List Case). cs ++ generated f (file_of xs) y)
          (own ∙ ap (λ (cs : List Case). cs ++ own_test f (function_at a.count (option_copied a.settings) y)) so.tests)
          ∙ append_assoc (cases_among f (places xs)) (own_test f (function_at a.count (option_copied a.settings) y)) (generated f (file_of xs) y)
          ∙ ap (λ (k : ℕ). cases_among f (places xs) ++ (own_test f (function_at k (option_copied a.settings) y) ++ generated f (file_of xs) y)) so.above.count
          ∙ ap (λ (o : Option (List Setting)). cases_among f (places xs) ++ (own_test f (function_at (length (file_of xs).functions) o y) ++ generated f (file_of xs) y)) so.above.settings
          ∙ ap (λ (cs : List Case). cases_among f (places xs) ++ cs)
          (sym (tests_at_item (map view_module_item items) xs (map view_module_item (drop (suc i) items)) y (among items i x h is)))
          ∙ sym (cases_with_item f xs y)
          ∙ ap (λ (zs : List tree.ModuleItem). cases_among f (places zs)) (sym (one_more items i x h is));
    }

pub walked_all : (w : Whole) (i : ℕ) (a : Above) (tests : List TestCase) → length w.values.now.items.now ≤ i → HasWalked w (take i w.values.now.items.now) a tests
    → map view_case tests ≡ cases (file_of_whole w)
walked_all w i a tests h so = so.tests ∙ ap (λ (ys : List ModuleItem). cases_among (file_of_whole w) (places (map view_module_item ys))) (take_all i w.values.now.items.now h)
