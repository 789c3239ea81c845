-- What stands for an accepted file, item by item.
use Rattle.std.proofs.Common.{◌≡◌, ◌+◌, ◌≤◌, ◌==◌, ◌&&◌, ◌||◌, not, ℕ, zero, suc, Bool, true, false, List, [], ◌∷◌, ◌++◌, length, map, slice_get, Option, Some, None, refl, sym, ap, subst, ◌∙◌, if◌then◌else◌, cond, arith}
use Rattle.std.proofs.lemmas.Bool.{eq-eqb, le-leb, ltb-false}
use Rattle.std.proofs.lemmas.List.{append-nil, append_assoc, length-append, length-map}
use Rattle.std.proofs.lemmas.List.Concat.{flat_map-cons, length-flat_map}
use Rattle.std.proofs.lemmas.Grind.{flat_map-append}
use Rattle.std.proofs.lemmas.List.Elements.{filter_map-append}
use Rattle.std.proofs.lemmas.List.Folds.{find-append, list_any-append}
use Rattle.std.proofs.lemmas.List.Sums.{sum_by-cons}
use Rattle.std.specs.Prelude.{nat_le, sum_by}
use Rattle.std.specs.List.{cons_option, filter_map, find, flat_map, list_all, list_any}
use Rattle.std.specs.Option.{is_some, option_map_or, option_or}
use Rattle.std.specs.Str.{bytes_eq}
use Rattle.py_syntax.specs.BlockTrees.{ModuleItem, TextAt, LineAt, FunctionAt}
use Rattle.py_syntax.specs.ExpressionTrees.{Tree}
use Rattle.py_syntax.specs.ModuleTrees as line
use Rattle.py_syntax.specs.StatementTrees as syntax
use Rattle.py_syntax.specs.declared.module.Parameter.{Parameter}
use Rattle.py_syntax.specs.declared.module.Setting.{Setting}
use Rattle.test_meaning.specs.Body.BodyTrees as body
use Rattle.test_meaning.specs.Body.BodyTrees.{Case}
use Rattle.test_meaning.specs.Body.Sound.{fill, fill_some, is_sound, is_sound_call, is_sound_case, is_sound_function, most_cases}
use Rattle.test_meaning.specs.Factory.Product.{Choice, Chosen, case_count, product}
use Rattle.test_meaning.proofs.FactoryLemmas.Product.{count_is_length}
use Rattle.test_refusal.specs.Items.OwnLine.{first_rule, lines_below, own_rule}
use Rattle.test_refusal.proofs.ItemsLemmas.Lines.{by_items, by_parts}
use Rattle.test_meaning.specs.Bodies.{Inside, call_in, called, clock_number, clock_parameters, get_number, put_number, function_in, given_operands, inside, operands_in}
use Rattle.test_meaning.specs.Cases.{argument, arguments, case_name, cases, cases_at, made, numbered, own_test, test_of}
use Rattle.test_meaning.specs.Check.{meaning}
use Rattle.test_meaning.specs.Library.{library, functions}
use Rattle.test_meaning.specs.Rules.File.{Definition, File, Maker, Place, choices, factory, factory_of, file_of, function, functions_of, further, is_made, is_test, its_function, line_of, made_by, next_function, places, places_below}
use Rattle.test_meaning.specs.Rules.Names.{Name, only_if}
use Rattle.test_meaning.specs.Rules.Rules.{defines_twice, first_broken, has_misfit, has_right_options, have_defaults, is_empty, is_misfit, is_misfit_at, is_overfull, is_stray, is_unknown_import, lacks_parameters, no_tests, one_test, order, refusal, refused_at, takes, test_limit, tests_among, tests_at}
use Rattle.test_meaning.specs.Rules.Uses.{file_lines, inner_lines, own_names, own_uses, parameter_names, with_names}
use Rattle.test_meaning.specs.declared.rules.rule.FileRule.{FileRule}
use Rattle.test_meaning.specs.declared.rules.rule.FileRule.TheVariants as rule
use Rattle.test_meaning.proofs.RulesLemmas.Texts.{same_bytes}
use Rattle.test_names.specs.Uses.Answer.{answer}
use Rattle.test_file.specs.List.SoFar.{Generation, cases_among, function_at, generated, generation_of, number_behind, settings_at, settings_behind, tests_of}
use Rattle.test_file.proofs.ListLemmas.Behind.{count_more, first_cases, functions_first, functions_then, next_is, not_overfull, settings_more, tests_at_item, unbroken}
use Rattle.test_file.specs.Sound.Starts.{are_right_starts, block_starts, is_right_start, starts_at}
use Rattle.test_file.proofs.SoundLemmas.Calls.{all_both, all_first, all_second, body_passes, both, first_of_both, second_of_both}
use Rattle.test_file.proofs.SoundLemmas.Clocks.{clock_filled}
use Rattle.test_file.proofs.SoundLemmas.Fits.{filled}
use Rattle.test_file.proofs.SoundLemmas.Uses.{block_fits, first_alone, fits_function, second_alone}

-- ---- functions by number

same_some : {A : Type 0} (a b : A) → Some a ≡ Some b → a ≡ b
same_some a b e = cc

-- a place where what was found stands
found_place : {A : Type 0} (p : A → Bool) (xs : List A) (a : A) → find p xs ≡ Some a → (i : ℕ) × (slice_get xs i ≡ Some a)
found_place p [] a e = absurd (cc)
found_place {A} p (x ∷ xs) a e = go (p x) e (λ h. found_place p xs a h)
  where
    go : (b : Bool) → cond b (Some x) (find p xs) ≡ Some a → (find p xs ≡ Some a → (i : ℕ) × (slice_get xs i ≡ Some a)) → (i : ℕ) × (slice_get (x ∷ xs) i ≡ Some a)
    go true h behind = (0, h)
    go false h behind = let more = behind h in (suc more.0, more.1)

-- a function's number is its place
placed_option : (k : ℕ) (before : Option (List Setting)) (x : ModuleItem) (ds : List Definition) (i : ℕ) (d : Definition)
    → slice_get (cons_option (function_at k before x) ds) i ≡ Some d
    → ((j : ℕ) → slice_get ds j ≡ Some d → d.number ≡ number_behind k x + j) → d.number ≡ k + i
placed_option k before (TextAt l) ds i d e more = more i e
placed_option k before (LineAt l z) ds i d e more = more i e
placed_option k before (FunctionAt l f ps b) ds zero d e more =
    let same : record { number = k; line = l; name = f; parameters = ps; body = b; options = before } ≡ d = same_some _ d e in
    let zero_more : k ≡ k + 0 = omega arith in
    sym (ap (λ (y : Definition). y.number) same) ∙ zero_more
placed_option k before (FunctionAt l f ps b) ds (suc i) d e more = let h : d.number ≡ suc k + i = more i e in omega (arith, h)

placed : (k : ℕ) (before : Option (List Setting)) (xs : List ModuleItem) (i : ℕ) (d : Definition) → slice_get (functions_of k before xs) i ≡ Some d → d.number ≡ k + i
placed k before [] i d e = absurd (cc)
placed k before (x ∷ xs) i d e =
    placed_option k before x (functions_of (number_behind k x) (settings_at x) xs) i d (ap (λ ds. slice_get ds i) (sym (functions_first k before x xs)) ∙ e)
    (λ j h. placed (number_behind k x) (settings_at x) xs j d h)

pub at_number : (items : List ModuleItem) (i : ℕ) (d : Definition) → slice_get (file_of items).functions i ≡ Some d → slice_get (file_of items).functions d.number ≡ Some d
at_number items i d e = let n : d.number ≡ i = omega (arith, placed 0 None items i d e) in ap (λ j. slice_get (file_of items).functions j) n ∙ e

at_map : {A B : Type 0} (g : A → B) (xs : List A) (ys : List B) (i : ℕ) (a : A) → slice_get xs i ≡ Some a → slice_get (map g xs ++ ys) i ≡ Some (g a)
at_map g [] ys i a e = absurd (cc)
at_map g (x ∷ xs) ys zero a e = ap (λ y. Some (g y)) (same_some x a e)
at_map g (x ∷ xs) ys (suc i) a e = at_map g xs ys i a e

abbrev body_of : File → Definition → body.Function
body_of f d = function_in f d.parameters d.body

pub made_at_number : (f : File) (d : Definition) → slice_get f.functions d.number ≡ Some d → slice_get (functions f) d.number ≡ Some (body_of f d)
made_at_number f d e = at_map (body_of f) f.functions library d.number d e

-- ---- calls

named_length : (ps : List Parameter) → length (parameter_names ps) ≡ length ps
named_length [] = refl
named_length (p ∷ ps) = ap (λ n. suc n) (named_length ps)

sound_called : (items : List ModuleItem) (s : Inside) (n : Name) (xs : List syntax.Argument) → s.file ≡ file_of items
    → fits_function (file_of items) (syntax.FunctionCall n xs) ≡ true → is_sound_call (functions (file_of items)) (call_in s (syntax.FunctionCall n xs)) ≡ true
sound_called items s n xs same h =
    ap (λ (g : File). is_sound_call (functions f) (called s xs (function g n))) same ∙ go (function f n) refl h
  where
    f : File
    f = file_of items

    go : (o : Option Definition) → function f n ≡ o → takes (map (λ a. a.name) xs) o ≡ true → is_sound_call (functions f) (called s xs o) ≡ true
    go None e t = cc
    go (Some d) e t =
        let there = found_place (λ (y : Definition). bytes_eq y.name n) f.functions d e in
        ap (λ (o : Option body.Function). option_map_or (λ (g : body.Function). fill (length g.parameters) (operands_in s d.parameters xs)) o false)
        (made_at_number f d (at_number items there.0 d there.1))
        ∙ ap (λ m. fill m (operands_in s d.parameters xs)) (named_length d.parameters) ∙ filled s d.parameters xs t

counted : (f : File) → clock_number f + 3 ≡ length (functions f)
counted f =
    let e : length (map (body_of f) f.functions ++ library) ≡ length (map (body_of f) f.functions) + 3 = length-append (map (body_of f) f.functions) library in
    let d : length (map (body_of f) f.functions) ≡ length f.functions = length-map f.functions (body_of f) in
    omega (arith, e, d)

sound_started : (items : List ModuleItem) (s : Inside) (e : Tree) (xs : List syntax.Argument) → s.file ≡ file_of items
    → is_right_start (syntax.ClockStart e xs) ≡ true → is_sound_call (functions (file_of items)) (call_in s (syntax.ClockStart e xs)) ≡ true
sound_started items s e xs same h =
    let f = file_of items in
    both (clock_number s.file + 3 == length (functions f)) (fill_some 2 (given_operands s clock_parameters 0 xs))
    (eq-eqb (clock_number s.file + 3) (length (functions f)) (ap (λ (g : File). clock_number g + 3) same ∙ counted f)) (clock_filled s xs h)

sound_put : (items : List ModuleItem) (s : Inside) (e x : Tree) → s.file ≡ file_of items
    → is_sound_call (functions (file_of items)) (call_in s (syntax.QueuePut e x)) ≡ true
sound_put items s e x same =
    let f = file_of items in
    let n : clock_number f + 3 ≡ length (functions f) = counted f in
    let m : put_number f + 2 ≡ length (functions f) = omega (arith, n) in
    eq-eqb (put_number s.file + 2) (length (functions f)) (ap (λ (g : File). put_number g + 2) same ∙ m)

sound_get : (items : List ModuleItem) (s : Inside) (e : Tree) → s.file ≡ file_of items
    → is_sound_call (functions (file_of items)) (call_in s (syntax.QueueGet e)) ≡ true
sound_get items s e same =
    let f = file_of items in
    let n : clock_number f + 3 ≡ length (functions f) = counted f in
    let m : get_number f + 1 ≡ length (functions f) = omega (arith, n) in
    eq-eqb (get_number s.file + 1) (length (functions f)) (ap (λ (g : File). get_number g + 1) same ∙ m)

sound_call : (items : List ModuleItem) (s : Inside) (c : syntax.StartedCall) → s.file ≡ file_of items → fits_function (file_of items) c ≡ true → is_right_start c ≡ true
    → is_sound_call (functions (file_of items)) (call_in s c) ≡ true
sound_call items s (syntax.FunctionCall n xs) same h r = sound_called items s n xs same h
sound_call items s (syntax.ClockStart e xs) same h r = sound_started items s e xs same r
sound_call items s (syntax.QueuePut e x) same h r = sound_put items s e x same
sound_call items s (syntax.QueueGet e) same h r = sound_get items s e same

all_two : {A : Type 0} (p q r : A → Bool) → ((a : A) → p a ≡ true → q a ≡ true → r a ≡ true) → (xs : List A) → list_all p xs ≡ true → list_all q xs ≡ true → list_all r xs ≡ true
all_two p q r step [] h k = refl
all_two p q r step (x ∷ xs) h k =
    both (r x) (list_all r xs) (step x (first_of_both (p x) (list_all p xs) h) (first_of_both (q x) (list_all q xs) k))
    (all_two p q r step xs (second_of_both (p x) (list_all p xs) h) (second_of_both (q x) (list_all q xs) k))

-- ---- item by item

-- an item that stands there breaks no rule
abbrev Stands : List ModuleItem → List ModuleItem → ModuleItem → List ModuleItem → Type 0
Stands items xs x ys = items ≡ xs ++ x ∷ ys

lines_unbroken : (items xs ys : List ModuleItem) (x : ModuleItem) → Stands items xs x ys → refusal (file_of items) ≡ None
    → first_broken (file_of items) (lines_below [] (xs ++ x ∷ ys)) ≡ None
lines_unbroken items xs ys x e none =
    let f = file_of items in
    subst (λ (zs : List ModuleItem). first_broken f (lines_below [] zs) ≡ None) e (first_alone (first_broken f (file_lines f)) (no_tests f) none)

-- its own line
line_unbroken : (items xs ys : List ModuleItem) (x : ModuleItem) → Stands items xs x ys → refusal (file_of items) ≡ None
    → own_rule (file_of items) (record { item = x; above = xs; below = ys }) ≡ None
line_unbroken items xs ys x e none = unbroken (file_of items) [] xs ys x (lines_unbroken items xs ys x e none)

-- the lines of its block
block_unbroken : (f : File) (ps bs ys : List ModuleItem) (x : ModuleItem) → first_broken f (lines_below ps (bs ++ x ∷ ys)) ≡ None → first_broken f (inner_lines (file_of (ps ++ bs)) x) ≡ None
block_unbroken f ps [] ys x e =
    ap (λ (zs : List ModuleItem). first_broken f (inner_lines (file_of zs) x)) (append-nil ps)
    ∙ first_alone (first_broken f (inner_lines (file_of ps) x)) (first_broken f (lines_below (ps ++ x ∷ []) ys))
    (second_alone (refused_at (line_of x) (own_rule f (record { item = x; above = ps; below = ys })))
    (option_or (first_broken f (inner_lines (file_of ps) x)) (first_broken f (lines_below (ps ++ x ∷ []) ys))) (sym (by_items f ps ys x) ∙ e))
block_unbroken f ps (b ∷ bs) ys x e =
    ap (λ (zs : List ModuleItem). first_broken f (inner_lines (file_of zs) x)) (sym (append_assoc ps (b ∷ []) bs))
    ∙ block_unbroken f (ps ++ b ∷ []) bs ys x
    (second_alone (first_broken f (inner_lines (file_of ps) b)) (first_broken f (lines_below (ps ++ b ∷ []) (bs ++ x ∷ ys)))
    (second_alone (refused_at (line_of b) (own_rule f (record { item = b; above = ps; below = bs ++ x ∷ ys })))
    (option_or (first_broken f (inner_lines (file_of ps) b)) (first_broken f (lines_below (ps ++ b ∷ []) (bs ++ x ∷ ys)))) (sym (by_items f ps (bs ++ x ∷ ys) b) ∙ e)))

right_starts : (items xs ys : List ModuleItem) (x : ModuleItem) → Stands items xs x ys → are_right_starts items ≡ true → list_all is_right_start (starts_at x) ≡ true
right_starts items xs ys x e h =
    all_first is_right_start (starts_at x) (flat_map starts_at ys)
    (ap (λ cs. list_all is_right_start cs) (sym (flat_map-cons starts_at x ys))
    ∙ all_second is_right_start (flat_map starts_at xs) (flat_map starts_at (x ∷ ys))
    (ap (λ cs. list_all is_right_start cs) (sym (flat_map-append starts_at xs (x ∷ ys))) ∙ ap (λ (zs : List ModuleItem). list_all is_right_start (flat_map starts_at zs)) (sym e) ∙ h))

-- what holds of the function of each item holds of all
abbrev EachFunction : List ModuleItem → (Definition → Bool) → Type 0
EachFunction items q = (xs ys : List ModuleItem) (x : ModuleItem) (d : Definition) → Stands items xs x ys
    → function_at (length (file_of xs).functions) (settings_behind None xs) x ≡ Some d → q d ≡ true

option_passes : (q : Definition → Bool) (o : Option Definition) (ds : List Definition) → ((d : Definition) → o ≡ Some d → q d ≡ true) → list_all q ds ≡ true → list_all q (cons_option o ds) ≡ true
option_passes q None ds one h = h
option_passes q (Some d) ds one h = both (q d) (list_all q ds) (one d refl) h

each_from : (items : List ModuleItem) (q : Definition → Bool) → EachFunction items q → (xs ys : List ModuleItem) → items ≡ xs ++ ys
    → list_all q (functions_of (length (file_of xs).functions) (settings_behind None xs) ys) ≡ true
each_from items q each xs [] e = refl
each_from items q each xs (x ∷ ys) e =
    let k = length (file_of xs).functions in
    let s = settings_behind None xs in
    ap (λ ds. list_all q ds) (functions_first k s x ys)
    ∙ option_passes q (function_at k s x) (functions_of (number_behind k x) (settings_at x) ys) (λ d h. each xs ys x d e h)
    (ap (λ j. list_all q (functions_of j (settings_at x) ys)) (count_more xs x)
    ∙ ap (λ (o : Option (List Setting)). list_all q (functions_of (length (file_of (xs ++ x ∷ [])).functions) o ys)) (sym (settings_more None xs x))
    ∙ each_from items q each (xs ++ x ∷ []) ys (e ∙ sym (append_assoc xs (x ∷ []) ys)))

each_function : (items : List ModuleItem) (q : Definition → Bool) → EachFunction items q → list_all q (file_of items).functions ≡ true
each_function items q each = each_from items q each [] items refl

-- ---- functions are sound

sound_body : (items xs ys : List ModuleItem) (x : ModuleItem) (d : Definition) → Stands items xs x ys → refusal (file_of items) ≡ None → are_right_starts items ≡ true
    → (k : ℕ) (s : Option (List Setting)) → function_at k s x ≡ Some d → is_sound_function (functions (file_of items)) (body_of (file_of items) d) ≡ true
sound_body items xs ys (TextAt l) d e none r k s is = absurd (cc)
sound_body items xs ys (LineAt l z) d e none r k s is = absurd (cc)
sound_body items xs ys (FunctionAt l g ps b) d e none r k s is =
    subst (λ (y : Definition). is_sound_function (functions f) (body_of f y) ≡ true) (same_some (record { number = k; line = l; name = g; parameters = ps; body = b; options = s }) d is)
    (body_passes (is_sound_call (functions f)) (inside f ps b) b
    (all_two (fits_function f) is_right_start (λ c. is_sound_call (functions f) (call_in (inside f ps b) c)) (λ c p q. sound_call items (inside f ps b) c refl p q) (block_starts b)
    (block_fits f (with_names (file_of xs) (own_names ps b)) false b (block_unbroken f [] xs ys (FunctionAt l g ps b) (lines_unbroken items xs ys (FunctionAt l g ps b) e none)))
    (right_starts items xs ys (FunctionAt l g ps b) e r)))
  where
    f : File
    f = file_of items

map_passes : {A B : Type 0} (p : B → Bool) (g : A → B) (xs : List A) → list_all (λ a. p (g a)) xs ≡ true → list_all p (map g xs) ≡ true
map_passes p g [] h = refl
map_passes p g (x ∷ xs) h = both (p (g x)) (list_all p (map g xs)) (first_of_both (p (g x)) (list_all (λ a. p (g a)) xs) h) (map_passes p g xs (second_of_both (p (g x)) (list_all (λ a. p (g a)) xs) h))

pub sound_functions : (items : List ModuleItem) → refusal (file_of items) ≡ None → are_right_starts items ≡ true
    → list_all (is_sound_function (functions (file_of items))) (functions (file_of items)) ≡ true
sound_functions items none r =
    let f = file_of items in
    all_both (is_sound_function (functions f)) (map (body_of f) f.functions) library
    (map_passes (is_sound_function (functions f)) (body_of f) f.functions
    (each_function items (λ d. is_sound_function (functions f) (body_of f d)) (λ xs ys x d e is. sound_body items xs ys x d e none r (length (file_of xs).functions) (settings_behind None xs) is)))
    refl

-- ---- tests are sound

no_misplaced : (u : Bool) (o : Option FileRule) (m t w v : Bool) → first_rule u o m t w v ≡ None → m ≡ false
no_misplaced true o m t w v e = cc
no_misplaced false o false t w v e = refl
no_misplaced false None true t w v e = cc
no_misplaced false (Some r) true t w v e = go (nat_le (order r) (order rule.Misplaced)) e
  where
    go : (b : Bool) → option_or (if b then Some r else Some rule.Misplaced) (if t then Some rule.DuplicateName else (if w then Some rule.BadOption else (if v then Some rule.TooManyCases else None))) ≡ None
        → true ≡ false
    go true h = cc
    go false h = cc

second_false : (a b : Bool) → (a || b) ≡ false → b ≡ false
second_false true b h = cc
second_false false b h = h

first_false : (a b : Bool) → (a || b) ≡ false → a ≡ false
first_false true b h = h
first_false false b h = refl

no_misfit : (items xs ys : List ModuleItem) (x : ModuleItem) (d : Definition) → Stands items xs x ys → refusal (file_of items) ≡ None
    → function_at (length (file_of xs).functions) (settings_behind None xs) x ≡ Some d → is_misfit (file_of items) d ≡ false
no_misfit items xs ys (TextAt l) d e none is = absurd (cc)
no_misfit items xs ys (LineAt l z) d e none is = absurd (cc)
no_misfit items xs ys (FunctionAt l g ps b) d e none is =
    let f = file_of items in
    let p : Place = record { item = FunctionAt l g ps b; above = xs; below = ys } in
    let next : next_function f (file_of xs) ≡ Some d =
    ap (λ (zs : List ModuleItem). next_function (file_of zs) (file_of xs)) e ∙ next_is xs ys l g ps b ∙ is in
    ap (λ (o : Option Definition). is_misfit_at f o) (sym next)
    ∙ second_false (is_stray p) (has_misfit f p)
    (no_misplaced (is_unknown_import p.item) (answer f (with_names (file_of p.above) []) (own_uses p.item)) (is_stray p || has_misfit f p) (defines_twice p)
    (not (has_right_options f (file_of p.above) p.item)) (is_overfull f p) (sym (by_parts f p) ∙ line_unbroken items xs ys (FunctionAt l g ps b) e none))

-- a function of a test has a parameter
has_first : (decorated made : Bool) (ps : List Parameter) → lacks_parameters decorated made ps ≡ false → (decorated || made) ≡ true → is_empty ps ≡ false
has_first decorated made ps h tested =
    let none : ((decorated || made) && is_empty ps) ≡ false = first_false ((decorated || made) && is_empty ps) ((decorated && not made) && not (have_defaults (further ps))) h in
    sym (ap (λ b. b && is_empty ps) tested) ∙ none

sound_test : (f : File) (d : Definition) (n : Name) (cs : List Chosen) → slice_get f.functions d.number ≡ Some d → is_empty d.parameters ≡ false
    → is_sound_case (functions f) (test_of f d n (arguments f d cs)) ≡ true
sound_test f d n cs there some =
    ap (λ (o : Option body.Function). option_map_or (λ (g : body.Function). length g.parameters == suc (length (arguments f d cs))) o false) (made_at_number f d there)
    ∙ eq-eqb (length (parameter_names d.parameters)) (suc (length (arguments f d cs)))
    (named_length d.parameters ∙ one_more d.parameters some ∙ ap (λ k. suc k) (sym (length-map (further d.parameters) (argument f cs))))
  where
    one_more : (ps : List Parameter) → is_empty ps ≡ false → length ps ≡ suc (length (further ps))
    one_more [] h = cc
    one_more (p ∷ ps) h = refl

sound_numbered : (f : File) (d : Definition) (p q : Option Name) (k : ℕ) (css : List (List Chosen)) → slice_get f.functions d.number ≡ Some d → is_empty d.parameters ≡ false
    → list_all (is_sound_case (functions f)) (numbered f d p q k css) ≡ true
sound_numbered f d p q k [] there some = refl
sound_numbered f d p q k (cs ∷ css) there some =
    both (is_sound_case (functions f) (test_of f d (case_name p d.name q k) (arguments f d cs))) (list_all (is_sound_case (functions f)) (numbered f d p q (suc k) css))
    (sound_test f d (case_name p d.name q k) cs there some) (sound_numbered f d p q (suc k) css there some)

is_true : (b : Bool) → not b ≡ true → b ≡ false
is_true true h = cc
is_true false h = refl

-- a function's own test
sound_own : (items xs ys : List ModuleItem) (x : ModuleItem) (o : Option Definition) → Stands items xs x ys → refusal (file_of items) ≡ None
    → function_at (length (file_of xs).functions) (settings_behind None xs) x ≡ o → list_all (is_sound_case (functions (file_of items))) (own_test (file_of items) o) ≡ true
sound_own items xs ys x None e none is = refl
sound_own items xs ys x (Some d) e none is = go (is_test f d) refl
  where
    f : File
    f = file_of items

    there : (y : ModuleItem) → Stands items xs y ys → function_at (length (file_of xs).functions) (settings_behind None xs) y ≡ Some d → slice_get f.functions (length (file_of xs).functions) ≡ Some d
    there (TextAt l) st h = absurd (cc)
    there (LineAt l z) st h = absurd (cc)
    there (FunctionAt l g ps b) st h = ap (λ (zs : List ModuleItem). next_function (file_of zs) (file_of xs)) st ∙ next_is xs ys l g ps b ∙ h

    decorated_or : (b c : Bool) → (b && not c) ≡ true → (b || c) ≡ true
    decorated_or true c h = refl
    decorated_or false c h = cc

    go : (b : Bool) → is_test f d ≡ b → list_all (is_sound_case (functions f)) (only_if b (test_of f d d.name (arguments f d []))) ≡ true
    go false h = refl
    go true h =
        both (is_sound_case (functions f) (test_of f d d.name (arguments f d []))) true
        (sound_test f d d.name [] (at_number items (length (file_of xs).functions) d (there x e is))
        (has_first (is_some d.options) (is_made f d) d.parameters (no_misfit items xs ys x d e none is) (decorated_or (is_some d.options) (is_made f d) h)))
        refl

-- what was found passes, and one passes
found_passes : {A : Type 0} (p : A → Bool) (xs : List A) (a : A) → find p xs ≡ Some a → p a ≡ true
found_passes p [] a e = cc
found_passes {A} p (x ∷ xs) a e = go (p x) refl e (λ g. found_passes p xs a g)
  where
    go : (b : Bool) → p x ≡ b → cond b (Some x) (find p xs) ≡ Some a → (find p xs ≡ Some a → p a ≡ true) → p a ≡ true
    go true h g behind = ap p (sym (same_some x a g)) ∙ h
    go false h g behind = behind g

found_any : {A : Type 0} (p q : A → Bool) (xs : List A) (a : A) → find p xs ≡ Some a → q a ≡ true → list_any q xs ≡ true
found_any p q [] a e h = cc
found_any {A} p q (x ∷ xs) a e h = go (p x) e (q x) refl (λ g. found_any p q xs a g h)
  where
    go : (b : Bool) → cond b (Some x) (find p xs) ≡ Some a → (c : Bool) → q x ≡ c → (find p xs ≡ Some a → list_any q xs ≡ true) → (c || list_any q xs) ≡ true
    go b g true f behind = refl
    go true g false f behind = let there : q x ≡ true = ap q (same_some x a g) ∙ h in cc
    go false g false f behind = behind g

at_place : {A : Type 0} (p : A → Bool) (xs : List A) (i : ℕ) (a : A) → list_all p xs ≡ true → slice_get xs i ≡ Some a → p a ≡ true
at_place p [] i a h e = absurd (cc)
at_place p (x ∷ xs) zero a h e = ap p (sym (same_some x a e)) ∙ first_of_both (p x) (list_all p xs) h
at_place p (x ∷ xs) (suc i) a h e = at_place p xs i a (second_of_both (p x) (list_all p xs) h) e

-- a factory's tests
sound_made : (items xs ys : List ModuleItem) → items ≡ xs ++ ys → refusal (file_of items) ≡ None → (n : Name) (p q : Option Name) (os : List Choice) (o : Option Definition)
    → made_by (file_of xs) n ≡ o → list_all (is_sound_case (functions (file_of items))) (made (file_of items) p q os o) ≡ true
sound_made items xs ys e none n p q os None is = refl
sound_made items xs ys e none n p q os (Some d) is = with_maker (factory (file_of xs) n) refl is
  where
    f : File
    f = file_of items

    all_functions : f.functions ≡ (file_of xs).functions ++ functions_of (length (file_of xs).functions) (settings_behind None xs) ys
    all_functions = ap (λ (zs : List ModuleItem). functions_of 0 None zs) e ∙ functions_then xs ys

    all_factories : f.factories ≡ (file_of xs).factories ++ (file_of ys).factories
    all_factories = ap (λ (zs : List ModuleItem). filter_map factory_of zs) e ∙ filter_map-append factory_of xs ys

    fitting : list_all (λ d. not (is_misfit f d)) f.functions ≡ true
    fitting = each_function items (λ y. not (is_misfit f y)) (λ us vs x y st h. ap (λ b. not b) (no_misfit items us vs x y st none h))

    with_maker : (m : Option Maker) → factory (file_of xs) n ≡ m → its_function (file_of xs) m ≡ Some d → list_all (is_sound_case (functions f)) (numbered f d p q 1 (product os)) ≡ true
    with_maker None g h = absurd (cc)
    with_maker (Some m) g h =
        let whole : function f m.function ≡ Some d =
        ap (λ ds. find (λ (y : Definition). bytes_eq y.name m.function) ds) all_functions
        ∙ find-append (λ (y : Definition). bytes_eq y.name m.function) (file_of xs).functions (functions_of (length (file_of xs).functions) (settings_behind None xs) ys)
        ∙ ap (λ (o : Option Definition). option_or o (find (λ (y : Definition). bytes_eq y.name m.function) (functions_of (length (file_of xs).functions) (settings_behind None xs) ys))) h in
        let there = found_place (λ (y : Definition). bytes_eq y.name m.function) f.functions d whole in
        let name : bytes_eq m.function d.name ≡ true = same_bytes m.function d.name ∙ found_passes (λ (y : Definition). bytes_eq y.name m.function) f.functions d whole in
        let one : list_any (λ (y : Maker). bytes_eq y.function d.name) (file_of xs).factories ≡ true
        = found_any (λ (y : Maker). bytes_eq y.name n) (λ (y : Maker). bytes_eq y.function d.name) (file_of xs).factories m g name in
        let of_factory : is_made f d ≡ true =
        ap (λ ms. list_any (λ (y : Maker). bytes_eq y.function d.name) ms) all_factories
        ∙ list_any-append (λ (y : Maker). bytes_eq y.function d.name) (file_of xs).factories (file_of ys).factories
        ∙ ap (λ b. b || list_any (λ (y : Maker). bytes_eq y.function d.name) (file_of ys).factories) one in
        sound_numbered f d p q 1 (product os) (at_number items there.0 d there.1)
        (has_first (is_some d.options) (is_made f d) d.parameters (is_true (is_misfit f d) (at_place (λ y. not (is_misfit f y)) f.functions there.0 d fitting there.1))
        (either (is_some d.options) (is_made f d) of_factory))
      where
        either : (b c : Bool) → c ≡ true → (b || c) ≡ true
        either true c h = refl
        either false c h = h

sound_generated : (items xs ys : List ModuleItem) → items ≡ xs ++ ys → refusal (file_of items) ≡ None → (o : Option Generation)
    → list_all (is_sound_case (functions (file_of items))) (option_map_or (tests_of (file_of items) (file_of xs)) o []) ≡ true
sound_generated items xs ys e none None = refl
sound_generated items xs ys e none (Some g) =
    sound_made items xs ys e none g.factory g.prefix g.postfix (choices (file_of items) (file_of xs) g.factory) (made_by (file_of xs) g.factory) refl

sound_at : (items xs ys : List ModuleItem) (x : ModuleItem) → Stands items xs x ys → refusal (file_of items) ≡ None
    → list_all (is_sound_case (functions (file_of items))) (cases_at (file_of items) (file_of xs) x) ≡ true
sound_at items xs ys x e none =
    let f = file_of items in
    let o = function_at (length (file_of xs).functions) (settings_behind None xs) x in
    ap (λ cs. list_all (is_sound_case (functions f)) cs) (tests_at_item items xs ys x e)
    ∙ all_both (is_sound_case (functions f)) (own_test f o) (generated f (file_of xs) x) (sound_own items xs ys x o e none refl) (sound_generated items xs (x ∷ ys) e none (generation_of x))

sound_below : (items xs ys : List ModuleItem) → items ≡ xs ++ ys → refusal (file_of items) ≡ None
    → list_all (is_sound_case (functions (file_of items))) (cases_among (file_of items) (places_below xs ys)) ≡ true
sound_below items xs [] e none = refl
sound_below items xs (x ∷ ys) e none =
    let f = file_of items in
    ap (λ cs. list_all (is_sound_case (functions f)) cs) (first_cases f xs ys x)
    ∙ all_both (is_sound_case (functions f)) (cases_at f (file_of xs) x) (cases_among f (places_below (xs ++ x ∷ []) ys)) (sound_at items xs ys x e none)
    (sound_below items (xs ++ x ∷ []) ys (e ∙ sym (append_assoc xs (x ∷ []) ys)) none)

pub sound_cases : (items : List ModuleItem) → refusal (file_of items) ≡ None → list_all (is_sound_case (functions (file_of items))) (cases (file_of items)) ≡ true
sound_cases items none = sound_below items [] items refl none

-- ---- how many tests

numbered_length : (f : File) (d : Definition) (p q : Option Name) (k : ℕ) (css : List (List Chosen)) → length (numbered f d p q k css) ≡ length css
numbered_length f d p q k [] = refl
numbered_length f d p q k (cs ∷ css) = ap (λ n. suc n) (numbered_length f d p q (suc k) css)

few_made : (f : File) (p q : Option Name) (os : List Choice) (o : Option Definition) → length (made f p q os o) ≤ case_count os
few_made f p q os None = omega arith
few_made f p q os (Some d) = let e : length (numbered f d p q 1 (product os)) ≡ case_count os = numbered_length f d p q 1 (product os) ∙ count_is_length os in omega (arith, e)

few_own : (f : File) (o : Option Definition) → length (own_test f o) ≤ one_test f o
few_own f None = omega arith
few_own f (Some d) = go (is_test f d) (test_of f d d.name (arguments f d []))
  where
    go : (b : Bool) (c : Case) → length (only_if b c) ≤ (if b then 1 else 0)
    go true c = omega arith
    go false c = omega arith

few_at : (f above : File) (x : ModuleItem) → length (cases_at f above x) ≤ tests_at f above x
few_at f above (TextAt l) = omega arith
few_at f above (FunctionAt l g ps b) = few_own f (next_function f above)
few_at f above (LineAt l (line.Test ss)) = omega arith
few_at f above (LineAt l (line.Constant m c)) = omega arith
few_at f above (LineAt l (line.Import m)) = omega arith
few_at f above (LineAt l (line.FromImport ms ns)) = omega arith
few_at f above (LineAt l (line.Factory m g)) = omega arith
few_at f above (LineAt l (line.AddOption m o cs)) = omega arith
few_at f above (LineAt l (line.GenerateTests m p q)) = few_made f p q (choices f above m) (made_by above m)
few_at f above (LineAt l (line.Function m ps)) = omega arith

summed : (f : File) (ps : List Place) → sum_by (λ (p : Place). length (cases_at f (file_of p.above) p.item)) ps ≤ tests_among f ps
summed f [] = omega arith
summed f (p ∷ ps) =
    let a : sum_by (λ (p : Place). length (cases_at f (file_of p.above) p.item)) (p ∷ ps) ≡ length (cases_at f (file_of p.above) p.item) + sum_by (λ (p : Place). length (cases_at f (file_of p.above) p.item)) ps
    = sum_by-cons (λ (p : Place). length (cases_at f (file_of p.above) p.item)) p ps in
    let b : tests_among f (p ∷ ps) ≡ tests_at f (file_of p.above) p.item + tests_among f ps = sum_by-cons (λ (p : Place). tests_at f (file_of p.above) p.item) p ps in
    let c : length (cases_at f (file_of p.above) p.item) ≤ tests_at f (file_of p.above) p.item = few_at f (file_of p.above) p.item in
    let d : sum_by (λ (p : Place). length (cases_at f (file_of p.above) p.item)) ps ≤ tests_among f ps = summed f ps in
    add (length (cases_at f (file_of p.above) p.item)) (tests_at f (file_of p.above) p.item) (sum_by (λ (p : Place). length (cases_at f (file_of p.above) p.item)) ps) (tests_among f ps)
    (sum_by (λ (p : Place). length (cases_at f (file_of p.above) p.item)) (p ∷ ps)) (tests_among f (p ∷ ps)) a b c d
  where
    add : (i j k l m n : ℕ) → m ≡ i + k → n ≡ j + l → i ≤ j → k ≤ l → m ≤ n
    add i j k l m n a b c d = omega (arith, a, b, c, d)

-- the tests of all items are few enough, since those up to the last are
few_among : (items xs ys : List ModuleItem) → items ≡ xs ++ ys → refusal (file_of items) ≡ None → tests_among (file_of items) (places xs) ≤ test_limit
    → tests_among (file_of items) (places items) ≤ test_limit
few_among items xs [] e none h =
    subst (λ (zs : List ModuleItem). tests_among (file_of items) (places zs) ≤ test_limit) (sym (e ∙ append-nil xs)) h
few_among items xs (x ∷ ys) e none h =
    few_among items (xs ++ x ∷ []) ys (e ∙ sym (append_assoc xs (x ∷ []) ys)) none
    (ltb-false test_limit (tests_among (file_of items) (places (xs ++ x ∷ [])))
    (not_overfull (file_of items) (record { item = x; above = xs; below = ys }) (line_unbroken items xs ys x e none)))

pub few_cases : (items : List ModuleItem) → refusal (file_of items) ≡ None → nat_le (length (cases (file_of items))) most_cases ≡ true
few_cases items none =
    let f = file_of items in
    le-leb (length (cases f)) most_cases
    (below (length (cases f)) (sum_by (λ (p : Place). length (cases_at f (file_of p.above) p.item)) (places items)) (tests_among f (places items)) most_cases
    (length-flat_map (λ (p : Place). cases_at f (file_of p.above) p.item) (places items)) (summed f (places items))
    (few_among items [] items refl none (least test_limit)))
  where
    below : (a b c d : ℕ) → a ≡ b → b ≤ c → c ≤ d → a ≤ d
    below a b c d e h k = omega (arith, e, h, k)

    least : (n : ℕ) → 0 ≤ n
    least n = omega arith

-- ---- the whole file

pub accepted_is_sound : (items : List ModuleItem) → are_right_starts items ≡ true → refusal (file_of items) ≡ None → is_sound (meaning (file_of items)) ≡ true
accepted_is_sound items r none =
    let f = file_of items in
    both (list_all (is_sound_function (functions f)) (functions f) && list_all (is_sound_case (functions f)) (cases f)) (nat_le (length (cases f)) most_cases)
    (both (list_all (is_sound_function (functions f)) (functions f)) (list_all (is_sound_case (functions f)) (cases f)) (sound_functions items none r) (sound_cases items none))
    (few_cases items none)
