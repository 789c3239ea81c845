-- What is known of some items, and of one more.
use Rattle.std.proofs.Common.{◌≡◌, ◌≤◌, ℕ, Bool, true, false, List, [], ◌∷◌, ◌++◌, map, Vec, Global, Bor, Option, Some, None, option_copied, refl, sym, ap, subst, ◌∙◌, if◌then◌else◌}
use Rattle.std.proofs.lemmas.List.{append-nil, map-append}
use Rattle.std.proofs.lemmas.List.Elements.{filter_map-append}
use Rattle.std.proofs.lemmas.List.Folds.{find-append}
use Rattle.std.specs.List.{cons_option, find}
use Rattle.std.specs.Option.{option_map, option_map_or, option_or}
use Rattle.std.specs.Str.{bytes_eq}
use Rattle.py_syntax.specs.BlockTrees.{ModuleItem, TextAt, LineAt, FunctionAt}
use Rattle.py_syntax.specs.ModuleTrees as line
use Rattle.py_syntax.specs.declared.module.Setting.{Setting}
use Rattle.test_meaning.specs.Body.BodyTrees.{Case}
use Rattle.test_meaning.specs.Body.Views.{view_case}
use Rattle.test_meaning.specs.declared.body.file.TestCase.{TestCase}
use Rattle.test_file.specs.Cases.Tested.{IsTested}
use Rattle.test_file.specs.declared.cases.factories.TestedFunction.{TestedFunction}
use Rattle.test_meaning.specs.Factory.Product.{Choice, case_count, case_limit, product}
use Rattle.test_meaning.specs.Cases.{arguments, made, numbered, own_test, test_of}
use Rattle.test_refusal.proofs.MakersLemmas.Items.{choices_more, chosen_or_none}
use Rattle.test_meaning.specs.Rules.File.{Definition, File, Fixed, Maker, choice_of, choices, factory, factory_of, file_of, function, is_test, its_function, made_by, value_in}
use Rattle.test_meaning.specs.Rules.Names.{Name, only_if}
use Rattle.test_meaning.specs.Rules.Rules.{refusal}
use Rattle.test_meaning.proofs.RulesLemmas.Texts.{same_bytes}
use Rattle.test_file.specs.List.SoFar.{AreFactories, AreFew, AreFunctions, AreOne, AreOptions, Extension, Generation, IsAbove, choice_in, extension_of, function_at, generated, generation_of, options_in, settings_behind, tests_of}
use Rattle.test_file.specs.List.Tables as table
use Rattle.test_file.specs.List.Tables.{list_in, with_value}
use Rattle.test_file.specs.declared.list.above.Above.{Above}
use Rattle.test_file.specs.declared.list.options.AddedOption.{AddedOption}
use Rattle.test_file.specs.declared.list.table.Table.{Table}
use Rattle.test_file.proofs.ListLemmas.Behind.{few_tests, functions_more, generated_count}

-- ---- functions

one_or : (a : Option Definition) (v : Option TestedFunction) (b c : Bool) (d : Definition) (t : TestedFunction) → AreOne a v → b ≡ c → IsTested d t
    → AreOne (option_or a (if b then Some d else None)) (option_or v (if c then Some t else None))
one_or None None true true d t h e is = is
one_or None None false false d t h e is = tt
one_or None None true false d t h e is = absurd (cc)
one_or None None false true d t h e is = absurd (cc)
one_or (Some a) (Some v) b c d t h e is = h
one_or None (Some v) b c d t h e is = absurd h
one_or (Some a) None b c d t h e is = absurd h

pub function_added : (ds : List Definition) (before after : Table TestedFunction) (d : Definition) (t : TestedFunction) → AreFunctions ds before → IsTested d t
    → ((n : Name) → table.value_in after n ≡ with_value t.name.now t (table.value_in before) n) → AreFunctions (ds ++ d ∷ []) after
function_added ds before after d t old is step n =
    subst (λ (v : Option TestedFunction). AreOne (find (λ (x : Definition). bytes_eq x.name n) (ds ++ d ∷ [])) v) (sym (step n))
    (subst (λ (o : Option Definition). AreOne o (with_value t.name.now t (table.value_in before) n)) (sym (find-append (λ (x : Definition). bytes_eq x.name n) ds (d ∷ [])))
    (one_or (find (λ (x : Definition). bytes_eq x.name n) ds) (table.value_in before n) (bytes_eq d.name n) (bytes_eq n t.name.now) d t (old n)
    (same_bytes d.name n ∙ ap (λ (m : Name). bytes_eq n m) is.name) is))

pub no_function : (ds : List Definition) (d : Option Definition) (t : Table TestedFunction) → AreOne d None → AreFunctions ds t → AreFunctions (ds ++ cons_option d []) t
no_function ds None t one old = subst (λ (es : List Definition). AreFunctions es t) (sym (append-nil ds)) old
no_function ds (Some d) t one old = absurd one

pub one_function : (ds : List Definition) (d : Option Definition) (before after : Table TestedFunction) (t : TestedFunction) → AreOne d (Some t) → AreFunctions ds before
    → ((n : Name) → table.value_in after n ≡ with_value t.name.now t (table.value_in before) n) → AreFunctions (ds ++ cons_option d []) after
one_function ds None before after t one old step = absurd one
one_function ds (Some d) before after t one old step = function_added ds before after d t old one step

-- ---- factories

factories_more : (xs : List ModuleItem) (x : ModuleItem) → (file_of (xs ++ x ∷ [])).factories ≡ (file_of xs).factories ++ cons_option (factory_of x) []
factories_more xs x = filter_map-append factory_of xs (x ∷ [])

maker_or : (a : Option Maker) (v : Option (Bor Name)) (b c : Bool) (m : Maker) (f : Bor Name) → option_map (λ (k : Maker). k.function) a ≡ option_copied v → b ≡ c → m.function ≡ f.now
    → option_map (λ (k : Maker). k.function) (option_or a (if b then Some m else None)) ≡ option_copied (option_or v (if c then Some f else None))
maker_or None None true true m f h e is = ap (λ (n : Name). Some n) is
maker_or None None false false m f h e is = refl
maker_or None None true false m f h e is = absurd (cc)
maker_or None None false true m f h e is = absurd (cc)
maker_or (Some a) (Some v) b c m f h e is = h
maker_or None (Some v) b c m f h e is = absurd (cc)
maker_or (Some a) None b c m f h e is = absurd (cc)

pub factory_added : (xs : List ModuleItem) (x : ModuleItem) (before after : Table (Bor Name)) (n : Name) (f : Bor Name) → AreFactories xs before
    → factory_of x ≡ Some (record { name = n; function = f.now }) → ((l : Name) → table.value_in after l ≡ with_value n f (table.value_in before) l) → AreFactories (xs ++ x ∷ []) after
factory_added xs x before after n f old is step l =
    let m : Maker = record { name = n; function = f.now } in
    ap (λ (ms : List Maker). option_map (λ (k : Maker). k.function) (find (λ (k : Maker). bytes_eq k.name l) ms))
    (factories_more xs x ∙ ap (λ (o : Option Maker). (file_of xs).factories ++ cons_option o []) is)
    ∙ ap (λ (o : Option Maker). option_map (λ (k : Maker). k.function) o) (find-append (λ (k : Maker). bytes_eq k.name l) (file_of xs).factories (m ∷ []))
    ∙ maker_or (factory (file_of xs) l) (table.value_in before l) (bytes_eq n l) (bytes_eq l n) m f (old l) (same_bytes n l) refl
    ∙ ap (λ (o : Option (Bor Name)). option_copied o) (sym (step l))

pub no_factory : (xs : List ModuleItem) (x : ModuleItem) (t : Table (Bor Name)) → factory_of x ≡ None → AreFactories xs t → AreFactories (xs ++ x ∷ []) t
no_factory xs x t none old l =
    ap (λ (ms : List Maker). option_map (λ (k : Maker). k.function) (find (λ (k : Maker). bytes_eq k.name l) ms))
    (factories_more xs x ∙ ap (λ (o : Option Maker). (file_of xs).factories ++ cons_option o []) none ∙ append-nil (file_of xs).factories)
    ∙ old l

-- the function of a factory
pub no_maker : (a : File) (n : Name) (v : Option TestedFunction) → option_map (λ (m : Maker). m.function) (factory a n) ≡ None → v ≡ None → AreOne (made_by a n) v
no_maker a n v e w = go (factory a n) e
  where
    go : (o : Option Maker) → option_map (λ (m : Maker). m.function) o ≡ None → AreOne (its_function a o) v
    go None h = subst (λ (u : Option TestedFunction). AreOne None u) (sym w) tt
    go (Some m) h = absurd (cc)

pub its_maker : (xs : List ModuleItem) (t : Table TestedFunction) (n f : Name) (v : Option TestedFunction) → AreFunctions (file_of xs).functions t
    → option_map (λ (m : Maker). m.function) (factory (file_of xs) n) ≡ Some f → v ≡ table.value_in t f → AreOne (made_by (file_of xs) n) v
its_maker xs t n f v old e w = go (factory (file_of xs) n) e
  where
    same : (l m : Name) → Some l ≡ Some m → l ≡ m
    same l m h = cc

    go : (o : Option Maker) → option_map (λ (m : Maker). m.function) o ≡ Some f → AreOne (its_function (file_of xs) o) v
    go None h = absurd (cc)
    go (Some m) h =
        subst (λ (u : Option TestedFunction). AreOne (function (file_of xs) m.function) u)
        (sym (w ∙ ap (λ (l : Name). table.value_in t l) (sym (same m.function f h)))) (old m.function)

-- ---- options

extended : (ks : List Fixed) (n : Name) (x : ModuleItem) (e : Extension) → extension_of x ≡ Some e
    → choice_of ks n x ≡ (if bytes_eq e.factory n then Some (record { name = e.option; values = map (value_in ks) e.values }) else None)
extended ks n (TextAt l) e h = cc
extended ks n (FunctionAt l f ps b) e h = cc
extended ks n (LineAt l (line.Test ss)) e h = cc
extended ks n (LineAt l (line.Constant m c)) e h = cc
extended ks n (LineAt l (line.Import m)) e h = cc
extended ks n (LineAt l (line.FromImport ms ns)) e h = cc
extended ks n (LineAt l (line.Factory m f)) e h = cc
extended ks n (LineAt l (line.AddOption m o cs)) e h =
    ap (λ (y : Extension). if bytes_eq y.factory n then Some (record { name = y.option; values = map (value_in ks) y.values }) else None) (same (record { factory = m; option = o; values = cs }) e h)
  where
    same : (a b : Extension) → Some a ≡ Some b → a ≡ b
    same a b g = cc
extended ks n (LineAt l (line.GenerateTests m p q)) e h = cc
extended ks n (LineAt l (line.Function m ps)) e h = cc

unextended : (ks : List Fixed) (n : Name) (x : ModuleItem) → extension_of x ≡ None → choice_of ks n x ≡ None
unextended ks n (TextAt l) h = refl
unextended ks n (FunctionAt l f ps b) h = refl
unextended ks n (LineAt l (line.Test ss)) h = refl
unextended ks n (LineAt l (line.Constant m c)) h = refl
unextended ks n (LineAt l (line.Import m)) h = refl
unextended ks n (LineAt l (line.FromImport ms ns)) h = refl
unextended ks n (LineAt l (line.Factory m f)) h = refl
unextended ks n (LineAt l (line.AddOption m o cs)) h = cc
unextended ks n (LineAt l (line.GenerateTests m p q)) h = refl
unextended ks n (LineAt l (line.Function m ps)) h = refl

mapped_if : (f : File) (b : Bool) (o : AddedOption) → map (choice_in f) (only_if b o) ≡ only_if b (choice_in f o)
mapped_if f true o = refl
mapped_if f false o = refl

pub option_added : (f : File) (xs : List ModuleItem) (x : ModuleItem) (before after : Table (Vec AddedOption Global)) (m : Name) (o : AddedOption) → AreOptions f xs before
    → extension_of x ≡ Some (record { factory = m; option = o.name.now; values = o.values.now })
    → ((n : Name) → list_in after n ≡ list_in before n ++ only_if (bytes_eq n m) o) → AreOptions f (xs ++ x ∷ []) after
option_added f xs x before after m o old is step n =
    choices_more f xs x n
    ∙ ap (λ (p : Option Choice). choices f (file_of xs) n ++ cons_option p []) (extended f.constants n x (record { factory = m; option = o.name.now; values = o.values.now }) is)
    ∙ ap (λ (cs : List Choice). choices f (file_of xs) n ++ cs) (chosen_or_none (bytes_eq m n) (choice_in f o))
    ∙ ap (λ (cs : List Choice). cs ++ only_if (bytes_eq m n) (choice_in f o)) (old n)
    ∙ ap (λ b. options_in f before n ++ only_if b (choice_in f o)) (same_bytes m n)
    ∙ ap (λ (cs : List Choice). options_in f before n ++ cs) (sym (mapped_if f (bytes_eq n m) o))
    ∙ sym (map-append (choice_in f) (list_in before n) (only_if (bytes_eq n m) o))
    ∙ ap (λ (os : List AddedOption). map (choice_in f) os) (sym (step n))

pub no_option : (f : File) (xs : List ModuleItem) (x : ModuleItem) (t : Table (Vec AddedOption Global)) → extension_of x ≡ None → AreOptions f xs t → AreOptions f (xs ++ x ∷ []) t
no_option f xs x t none old n =
    choices_more f xs x n ∙ ap (λ (o : Option Choice). choices f (file_of xs) n ++ cons_option o []) (unextended f.constants n x none)
    ∙ append-nil (choices f (file_of xs) n) ∙ old n

-- ---- the function of an item

pub functions_of_more : (f : File) (xs : List ModuleItem) (x : ModuleItem) (a : Above) (t : Table TestedFunction) → IsAbove f xs a
    → AreFunctions ((file_of xs).functions ++ cons_option (function_at a.count (option_copied a.settings) x) []) t → AreFunctions (file_of (xs ++ x ∷ [])).functions t
functions_of_more f xs x a t is h =
    subst (λ (ds : List Definition). AreFunctions ds t) (sym (functions_more xs x))
    (subst (λ (k : ℕ). AreFunctions ((file_of xs).functions ++ cons_option (function_at k (settings_behind None xs) x) []) t) is.count
    (subst (λ (s : Option (List Setting)). AreFunctions ((file_of xs).functions ++ cons_option (function_at a.count s x) []) t) is.settings h))

-- it has the options of the decorator before
pub decorated : (k : ℕ) (s : Option (List Setting)) (x : ModuleItem) (d : Definition) → function_at k s x ≡ Some d → d.options ≡ s
decorated k s (TextAt l) d e = cc
decorated k s (LineAt l z) d e = cc
decorated k s (FunctionAt l f ps b) d e = sym (ap (λ (y : Definition). y.options) (same (record { number = k; line = l; name = f; parameters = ps; body = b; options = s }) d e))
  where
    same : (y z : Definition) → Some y ≡ Some z → y ≡ z
    same y z h = cc

pub own_tested : (f : File) (o : Option Definition) (t : TestedFunction) (s : Option (List Setting)) (b : Bool) (before after : List Case) → AreOne o (Some t)
    → ((d : Definition) → o ≡ Some d → d.options ≡ s) → ((d : Definition) → IsTested d t → d.options ≡ s → b ≡ is_test f d)
    → ((d : Definition) → IsTested d t → after ≡ before ++ only_if b (test_of f d d.name (arguments f d []))) → after ≡ before ++ own_test f o
own_tested f None t s b before after one options is step = absurd one
own_tested f (Some d) t s b before after one options is step =
    step d one ∙ ap (λ c. before ++ only_if c (test_of f d d.name (arguments f d []))) (is d one (options d refl))

pub no_own_test : (f : File) (o : Option Definition) (before : List Case) → AreOne o None → before ≡ before ++ own_test f o
no_own_test f None before one = sym (append-nil before)
no_own_test f (Some d) before one = absurd one

pub test_pushed : (b : Bool) (tests more : List TestCase) (c : TestCase) (k : Case) → b ≡ true → more ≡ tests ++ c ∷ [] → view_case c ≡ k
    → map view_case more ≡ map view_case tests ++ only_if b k
test_pushed b tests more c k true_is e is =
    ap (λ (cs : List TestCase). map view_case cs) e ∙ map-append view_case tests (c ∷ []) ∙ ap (λ (d : Case). map view_case tests ++ d ∷ []) is
    ∙ sym (ap (λ (h : Bool). map view_case tests ++ only_if h k) true_is)

pub not_pushed : (b : Bool) (tests : List TestCase) (k : Case) → b ≡ false → map view_case tests ≡ map view_case tests ++ only_if b k
not_pushed b tests k false_is = sym (ap (λ (h : Bool). map view_case tests ++ only_if h k) false_is ∙ append-nil (map view_case tests))

-- ---- generated tests

pub generated_of : (f : File) (p q : Option Name) (os ps : List Choice) (o : Option Definition) (t : TestedFunction) (cs : List Case) → AreOne o (Some t) → os ≡ ps
    → ((d : Definition) → IsTested d t → cs ≡ numbered f d p q 1 (product ps)) → cs ≡ made f p q os o
generated_of f p q os ps None t cs one e step = absurd one
generated_of f p q os ps (Some d) t cs one e step = step d one ∙ ap (λ (ks : List Choice). numbered f d p q 1 (product ks)) (sym e)

pub generates_nothing : (f : File) (p q : Option Name) (os : List Choice) (o : Option Definition) (cs : List Case) → AreOne o None → cs ≡ [] → cs ≡ made f p q os o
generates_nothing f p q os None cs one e = e
generates_nothing f p q os (Some d) cs one e = absurd one

pub with_generation : (f above : File) (x : ModuleItem) (g : Generation) (tests more all : List TestCase) → generation_of x ≡ Some g → all ≡ tests ++ more
    → map view_case more ≡ tests_of f above g → map view_case all ≡ map view_case tests ++ generated f above x
with_generation f above x g tests more all is e so =
    ap (λ (cs : List TestCase). map view_case cs) e ∙ map-append view_case tests more
    ∙ ap (λ (cs : List Case). map view_case tests ++ cs) (so ∙ sym (ap (λ (o : Option Generation). option_map_or (tests_of f above) o []) is))

pub no_generation : (f above : File) (x : ModuleItem) (tests : List TestCase) → generation_of x ≡ None → map view_case tests ≡ map view_case tests ++ generated f above x
no_generation f above x tests none =
    sym (ap (λ (o : Option Generation). map view_case tests ++ option_map_or (tests_of f above) o []) none ∙ append-nil (map view_case tests))

-- ---- few tests

pub few_generated : (items xs ys : List ModuleItem) (x : ModuleItem) (a : Above) → items ≡ xs ++ x ∷ ys → refusal (file_of items) ≡ None
    → IsAbove (file_of items) xs a → AreFew (file_of items) a x
few_generated items xs ys x a e none is g h =
    subst (λ k. k ≤ case_limit) (generated_count (file_of items) (file_of xs) x g h ∙ ap (λ (cs : List Choice). case_count cs) (is.options g.factory))
    (few_tests items xs ys x e none)
