-- The functions of some items and of more, and the tests at one item more.
use Rattle.std.proofs.Common.{◌≡◌, ◌≤◌, ◌+◌, ◌||◌, not, ℕ, suc, Bool, true, false, List, [], ◌∷◌, ◌++◌, length, slice_get, Option, Some, None, refl, sym, ap, subst, ◌∙◌, if◌then◌else◌, arith}
use Rattle.std.proofs.lemmas.Bool.{ltb-false}
use Rattle.std.proofs.lemmas.List.{append-nil, append_assoc}
use Rattle.std.proofs.lemmas.List.Concat.{flat_map-cons}
use Rattle.std.specs.List.{cons_option}
use Rattle.std.specs.Option.{option_or}
use Rattle.py_syntax.specs.BlockTrees.{ModuleItem, TextAt, LineAt, FunctionAt, Block}
use Rattle.py_syntax.specs.ModuleTrees as line
use Rattle.py_syntax.specs.declared.module.Parameter.{Parameter}
use Rattle.py_syntax.specs.declared.module.Setting.{Setting}
use Rattle.test_meaning.specs.Body.BodyTrees.{Case}
use Rattle.test_meaning.specs.Factory.Product.{case_count}
use Rattle.test_refusal.specs.Items.OwnLine.{first_rule, lines_below, own_rule}
use Rattle.test_refusal.proofs.ItemsLemmas.Counts.{tests_with_item}
use Rattle.test_refusal.proofs.ItemsLemmas.Lines.{by_items, by_parts}
use Rattle.test_meaning.specs.Cases.{cases_at, own_test}
use Rattle.test_meaning.specs.Rules.File.{Definition, File, Place, choices, file_of, functions_of, line_of, next_function, places, places_below}
use Rattle.test_meaning.specs.Rules.Names.{Name}
use Rattle.test_meaning.specs.Rules.Rules.{defines_twice, first_broken, has_misfit, has_right_options, is_overfull, is_stray, is_unknown_import, no_tests, refusal, refused_at, test_limit, tests_among, tests_at}
use Rattle.test_meaning.specs.Rules.Uses.{file_lines, inner_lines, own_uses, with_names}
use Rattle.test_meaning.specs.declared.rules.rule.FileRule.{FileRule}
use Rattle.test_meaning.specs.declared.rules.rule.FileRule.TheVariants as rule
use Rattle.test_names.specs.Uses.Answer.{answer, first_of}
use Rattle.test_file.specs.List.SoFar.{Generation, cases_among, function_at, generated, generation_of, number_behind, settings_at, settings_behind}

-- ---- functions

-- the function of the first item, and those of the items behind it
pub functions_first : (k : ℕ) (before : Option (List Setting)) (x : ModuleItem) (xs : List ModuleItem)
    → functions_of k before (x ∷ xs) ≡ cons_option (function_at k before x) (functions_of (number_behind k x) (settings_at x) xs)
functions_first k before (TextAt l) xs = refl
functions_first k before (FunctionAt l f ps b) xs = refl
functions_first k before (LineAt l (line.Test ss)) xs = refl
functions_first k before (LineAt l (line.Constant m c)) xs = refl
functions_first k before (LineAt l (line.Import m)) xs = refl
functions_first k before (LineAt l (line.FromImport ms ns)) xs = refl
functions_first k before (LineAt l (line.Factory m f)) xs = refl
functions_first k before (LineAt l (line.AddOption m o cs)) xs = refl
functions_first k before (LineAt l (line.GenerateTests m p q)) xs = refl
functions_first k before (LineAt l (line.Function m ps)) xs = refl

-- the number of the function behind some items
number_after : ℕ → List ModuleItem → ℕ
number_after k [] = k
number_after k (x ∷ xs) = number_after (number_behind k x) xs

cons_append : {A : Type 0} (o : Option A) (ps bs : List A) → cons_option o (ps ++ bs) ≡ cons_option o ps ++ bs
cons_append None ps bs = refl
cons_append (Some a) ps bs = refl

functions_behind : (k : ℕ) (before : Option (List Setting)) (xs ys : List ModuleItem)
    → functions_of k before (xs ++ ys) ≡ functions_of k before xs ++ functions_of (number_after k xs) (settings_behind before xs) ys
unfolding number_after
functions_behind k before [] ys = refl
functions_behind k before (x ∷ xs) ys =
    let j : ℕ = number_behind k x in
    let more : List Definition = functions_of (number_after j xs) (settings_behind (settings_at x) xs) ys in
    functions_first k before x (xs ++ ys)
    ∙ ap (λ (ds : List Definition). cons_option (function_at k before x) ds) (functions_behind j (settings_at x) xs ys)
    ∙ cons_append (function_at k before x) (functions_of j (settings_at x) xs) more
    ∙ ap (λ (ds : List Definition). ds ++ more) (sym (functions_first k before x xs))

number_step : (k n : ℕ) (before : Option (List Setting)) (x : ModuleItem) (ds : List Definition) → n ≡ length ds → number_behind k x + n ≡ k + length (cons_option (function_at k before x) ds)
number_step k n before (TextAt l) ds e = ap (λ j. k + j) e
number_step k n before (FunctionAt l f ps b) ds e = omega (arith, e)
number_step k n before (LineAt l z) ds e = ap (λ j. k + j) e

counted : (k : ℕ) (before : Option (List Setting)) (xs : List ModuleItem) → number_after k xs ≡ k + length (functions_of k before xs)
unfolding number_after
counted k before [] = let e : k ≡ k + 0 = omega arith in e
counted k before (x ∷ xs) =
    let j : ℕ = number_behind k x in
    counted j (settings_at x) xs ∙ number_step k (length (functions_of j (settings_at x) xs)) before x (functions_of j (settings_at x) xs) refl
    ∙ ap (λ (ds : List Definition). k + length ds) (sym (functions_first k before x xs))

counted_all : (xs : List ModuleItem) → number_after 0 xs ≡ length (file_of xs).functions
counted_all xs = let e : 0 + length (functions_of 0 None xs) ≡ length (functions_of 0 None xs) = omega arith in counted 0 None xs ∙ e

-- the functions of some items and of what stands behind them
pub functions_then : (xs ys : List ModuleItem)
    → functions_of 0 None (xs ++ ys) ≡ functions_of 0 None xs ++ functions_of (length (file_of xs).functions) (settings_behind None xs) ys
functions_then xs ys =
    functions_behind 0 None xs ys ∙ ap (λ j. functions_of 0 None xs ++ functions_of j (settings_behind None xs) ys) (counted_all xs)

pub functions_more : (xs : List ModuleItem) (x : ModuleItem)
    → (file_of (xs ++ x ∷ [])).functions ≡ (file_of xs).functions ++ cons_option (function_at (length (file_of xs).functions) (settings_behind None xs) x) []
functions_more xs x =
    functions_then xs (x ∷ []) ∙ ap (λ (ds : List Definition). functions_of 0 None xs ++ ds) (functions_first (length (file_of xs).functions) (settings_behind None xs) x [])

number_more : (k : ℕ) (xs : List ModuleItem) (x : ModuleItem) → number_after k (xs ++ x ∷ []) ≡ number_behind (number_after k xs) x
unfolding number_after
number_more k [] x = refl
number_more k (y ∷ xs) x = number_more (number_behind k y) xs x

pub count_more : (xs : List ModuleItem) (x : ModuleItem) → number_behind (length (file_of xs).functions) x ≡ length (file_of (xs ++ x ∷ [])).functions
count_more xs x = ap (λ k. number_behind k x) (sym (counted_all xs)) ∙ sym (number_more 0 xs x) ∙ counted_all (xs ++ x ∷ [])

pub settings_more : (before : Option (List Setting)) (xs : List ModuleItem) (x : ModuleItem) → settings_behind before (xs ++ x ∷ []) ≡ settings_at x
settings_more before [] x = refl
settings_more before (y ∷ xs) x = settings_more (settings_at y) xs x

-- what stands behind a list
first_behind : {A : Type 0} (xs : List A) (y : A) (rest : List A) → slice_get (xs ++ y ∷ rest) (length xs) ≡ Some y
first_behind [] y rest = refl
first_behind (x ∷ xs) y rest = first_behind xs y rest

-- the function whose header stands behind some items
pub next_is : (xs ys : List ModuleItem) (l : ℕ) (f : Name) (ps : List Parameter) (b : Block)
    → next_function (file_of (xs ++ FunctionAt l f ps b ∷ ys)) (file_of xs) ≡ function_at (length (file_of xs).functions) (settings_behind None xs) (FunctionAt l f ps b)
next_is xs ys l f ps b =
    let k : ℕ = length (file_of xs).functions in
    let d : Definition = record { number = k; line = l; name = f; parameters = ps; body = b; options = settings_behind None xs } in
    ap (λ (ds : List Definition). slice_get ds k) (functions_then xs (FunctionAt l f ps b ∷ ys))
    ∙ first_behind (functions_of 0 None xs) d (functions_of (suc k) None ys)

-- ---- tests

at_parts : (xs ys : List ModuleItem) (x : ModuleItem) → cases_at (file_of (xs ++ x ∷ ys)) (file_of xs) x
    ≡ own_test (file_of (xs ++ x ∷ ys)) (function_at (length (file_of xs).functions) (settings_behind None xs) x) ++ generated (file_of (xs ++ x ∷ ys)) (file_of xs) x
at_parts xs ys (TextAt l) = refl
at_parts xs ys (FunctionAt l f ps b) =
    let file : File = file_of (xs ++ FunctionAt l f ps b ∷ ys) in
    ap (λ (o : Option Definition). own_test file o) (next_is xs ys l f ps b)
    ∙ sym (append-nil (own_test file (function_at (length (file_of xs).functions) (settings_behind None xs) (FunctionAt l f ps b))))
at_parts xs ys (LineAt l (line.Test ss)) = refl
at_parts xs ys (LineAt l (line.Constant m c)) = refl
at_parts xs ys (LineAt l (line.Import m)) = refl
at_parts xs ys (LineAt l (line.FromImport ms ns)) = refl
at_parts xs ys (LineAt l (line.Factory m f)) = refl
at_parts xs ys (LineAt l (line.AddOption m o cs)) = refl
at_parts xs ys (LineAt l (line.GenerateTests m p q)) = refl
at_parts xs ys (LineAt l (line.Function m ps)) = refl

-- the tests at an item: that of its function, and those that it generates
pub tests_at_item : (items xs ys : List ModuleItem) (x : ModuleItem) → items ≡ xs ++ x ∷ ys → cases_at (file_of items) (file_of xs) x
    ≡ own_test (file_of items) (function_at (length (file_of xs).functions) (settings_behind None xs) x) ++ generated (file_of items) (file_of xs) x
tests_at_item items xs ys x e =
    subst (λ (zs : List ModuleItem). cases_at (file_of zs) (file_of xs) x
    ≡ own_test (file_of zs) (function_at (length (file_of xs).functions) (settings_behind None xs) x) ++ generated (file_of zs) (file_of xs) x) (sym e) (at_parts xs ys x)

pub first_cases : (f : File) (xs ys : List ModuleItem) (z : ModuleItem)
    → cases_among f (places_below xs (z ∷ ys)) ≡ cases_at f (file_of xs) z ++ cases_among f (places_below (xs ++ z ∷ []) ys)
first_cases f xs ys z =
    flat_map-cons (λ (p : Place). cases_at f (file_of p.above) p.item) (record { item = z; above = xs; below = ys }) (places_below (xs ++ z ∷ []) ys)

cases_behind : (f : File) (xs ys : List ModuleItem) (y : ModuleItem)
    → cases_among f (places_below xs (ys ++ y ∷ [])) ≡ cases_among f (places_below xs ys) ++ cases_at f (file_of (xs ++ ys)) y
cases_behind f xs [] y =
    first_cases f xs [] y ∙ append-nil (cases_at f (file_of xs) y) ∙ ap (λ zs. cases_at f (file_of zs) y) (sym (append-nil xs))
cases_behind f xs (z ∷ ys) y =
    first_cases f xs (ys ++ y ∷ []) z
    ∙ ap (λ (cs : List Case). cases_at f (file_of xs) z ++ cs) (cases_behind f (xs ++ z ∷ []) ys y)
    ∙ sym (append_assoc (cases_at f (file_of xs) z) (cases_among f (places_below (xs ++ z ∷ []) ys)) (cases_at f (file_of ((xs ++ z ∷ []) ++ ys)) y))
    ∙ ap (λ (cs : List Case). cs ++ cases_at f (file_of ((xs ++ z ∷ []) ++ ys)) y) (sym (first_cases f xs ys z))
    ∙ ap (λ zs. cases_among f (places_below xs (z ∷ ys)) ++ cases_at f (file_of zs) y) (append_assoc xs (z ∷ []) ys)

pub cases_with_item : (f : File) (xs : List ModuleItem) (x : ModuleItem) → cases_among f (places (xs ++ x ∷ [])) ≡ cases_among f (places xs) ++ cases_at f (file_of xs) x
cases_with_item f xs x = cases_behind f [] xs x

-- ---- no rule is broken

first_none : {A : Type 0} (a b : Option A) → option_or a b ≡ None → a ≡ None
first_none None b e = refl
first_none (Some x) b e = e

second_none : {A : Type 0} (a b : Option A) → option_or a b ≡ None → b ≡ None
second_none None b e = e
second_none (Some x) b e = cc

no_rule : (l : ℕ) (o : Option FileRule) → refused_at l o ≡ None → o ≡ None
no_rule l None e = refl
no_rule l (Some r) e = cc

pub unbroken : (f : File) (ps bs ys : List ModuleItem) (x : ModuleItem) → first_broken f (lines_below ps (bs ++ x ∷ ys)) ≡ None
    → own_rule f (record { item = x; above = ps ++ bs; below = ys }) ≡ None
unbroken f ps [] ys x e =
    ap (λ zs. own_rule f (record { item = x; above = zs; below = ys })) (append-nil ps)
    ∙ no_rule (line_of x) (own_rule f (record { item = x; above = ps; below = ys }))
    (first_none (refused_at (line_of x) (own_rule f (record { item = x; above = ps; below = ys })))
    (option_or (first_broken f (inner_lines (file_of ps) x)) (first_broken f (lines_below (ps ++ x ∷ []) ys))) (sym (by_items f ps ys x) ∙ e))
unbroken f ps (b ∷ bs) ys x e =
    ap (λ zs. own_rule f (record { item = x; above = zs; below = ys })) (sym (append_assoc ps (b ∷ []) bs))
    ∙ unbroken f (ps ++ b ∷ []) bs ys x
    (second_none (first_broken f (inner_lines (file_of ps) b)) (first_broken f (lines_below (ps ++ b ∷ []) (bs ++ x ∷ ys)))
    (second_none (refused_at (line_of b) (own_rule f (record { item = b; above = ps; below = bs ++ x ∷ ys })))
    (option_or (first_broken f (inner_lines (file_of ps) b)) (first_broken f (lines_below (ps ++ b ∷ []) (bs ++ x ∷ ys)))) (sym (by_items f ps (bs ++ x ∷ ys) b) ∙ e)))

last_unbroken : (u : Bool) (o : Option FileRule) (m t w v : Bool) → first_rule u o m t w v ≡ None → v ≡ false
last_unbroken true o m t w v e = cc
last_unbroken false o m true w v e = let no = second_none (first_of o (if m then Some rule.Misplaced else None)) (Some rule.DuplicateName) e in cc
last_unbroken false o m false true v e = let no = second_none (first_of o (if m then Some rule.Misplaced else None)) (Some rule.BadOption) e in cc
last_unbroken false o m false false true e = let no = second_none (first_of o (if m then Some rule.Misplaced else None)) (Some rule.TooManyCases) e in cc
last_unbroken false o m false false false e = refl

pub not_overfull : (f : File) (p : Place) → own_rule f p ≡ None → is_overfull f p ≡ false
not_overfull f p e =
    last_unbroken (is_unknown_import p.item) (answer f (with_names (file_of p.above) []) (own_uses p.item)) (is_stray p || has_misfit f p) (defines_twice p)
    (not (has_right_options f (file_of p.above) p.item)) (is_overfull f p) (sym (by_parts f p) ∙ e)

few : (a b n limit : ℕ) → n ≡ a + b → n ≤ limit → b ≤ limit
few a b n limit e h = omega (arith, e, h)

-- few tests stand at each item
pub few_tests : (items xs ys : List ModuleItem) (x : ModuleItem) → items ≡ xs ++ x ∷ ys → refusal (file_of items) ≡ None → tests_at (file_of items) (file_of xs) x ≤ test_limit
few_tests items xs ys x e none =
    let f : File = file_of items in
    let whole : first_broken f (file_lines f) ≡ None = first_none (first_broken f (file_lines f)) (no_tests f) none in
    let there : first_broken f (lines_below [] (xs ++ x ∷ ys)) ≡ None = subst (λ (zs : List ModuleItem). first_broken f (lines_below [] zs) ≡ None) e whole in
    few (tests_among f (places xs)) (tests_at f (file_of xs) x) (tests_among f (places (xs ++ x ∷ []))) test_limit (tests_with_item f xs x)
    (ltb-false test_limit (tests_among f (places (xs ++ x ∷ []))) (not_overfull f (record { item = x; above = xs; below = ys }) (unbroken f [] xs ys x there)))

pub generated_count : (f above : File) (x : ModuleItem) (g : Generation) → generation_of x ≡ Some g → tests_at f above x ≡ case_count (choices f above g.factory)
generated_count f above (TextAt l) g e = cc
generated_count f above (FunctionAt l n ps b) g e = cc
generated_count f above (LineAt l (line.Test ss)) g e = cc
generated_count f above (LineAt l (line.Constant m c)) g e = cc
generated_count f above (LineAt l (line.Import m)) g e = cc
generated_count f above (LineAt l (line.FromImport ms ns)) g e = cc
generated_count f above (LineAt l (line.Factory m n)) g e = cc
generated_count f above (LineAt l (line.AddOption m o cs)) g e = cc
generated_count f above (LineAt l (line.GenerateTests m p q)) g e = ap (λ n. case_count (choices f above n)) (of m p q e)
  where
    same : (a b : Generation) → Some a ≡ Some b → a ≡ b
    same a b h = cc

    of : (m : Name) (p q : Option Name) → Some (record { factory = m; prefix = p; postfix = q }) ≡ Some g → m ≡ g.factory
    of m p q h = ap (λ (a : Generation). a.factory) (same (record { factory = m; prefix = p; postfix = q }) g h)
generated_count f above (LineAt l (line.Function m ps)) g e = cc
