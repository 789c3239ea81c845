-- The function whose header stands behind some items.
use Rattle.std.proofs.Common.{◌≡◌, ◌+◌, ◌&&◌, ◌||◌, not, ℕ, suc, Bool, true, false, List, [], ◌∷◌, ◌++◌, length, slice_get, Option, Some, None, refl, sym, ap, ◌∙◌, if◌then◌else◌, arith}
use Rattle.std.proofs.slice.Lists.{last_more}
use Rattle.std.proofs.lemmas.List.Folds.{list_any-append}
use Rattle.std.specs.List.{last_or, list_any}
use Rattle.std.specs.Option.{is_some, option_map_or}
use Rattle.py_syntax.specs.BlockTrees.{ModuleItem, TextAt, LineAt, FunctionAt, Block}
use Rattle.py_syntax.specs.ModuleTrees as line
use Rattle.py_syntax.specs.declared.module.Parameter.{Parameter}
use Rattle.py_syntax.specs.declared.module.Setting.{Setting}
use Rattle.test_meaning.specs.Rules.File.{Definition, File, file_of, functions_of, is_decorator, is_function, is_made_name, is_test, next_function, parameters_of}
use Rattle.test_meaning.specs.Rules.Names.{Name}
use Rattle.test_meaning.specs.Rules.Rules.{has_misfit, is_misfit_at, lacks_parameters, one_test}
use Rattle.test_refusal.specs.Items.Functions.{function_name, is_decorated_behind}

-- the options of the decorator that stands directly behind these items, or of one that stands directly before them where there is none
abbrev options_behind : Option (List Setting) → List ModuleItem → Option (List Setting)
options_behind before [] = before
options_behind before (LineAt l (line.Test ss) ∷ xs) = options_behind (Some ss) xs
options_behind before (x ∷ xs) = options_behind None xs

-- the functions of these items, and then of those
functions_behind : (k : ℕ) (before : Option (List Setting)) (xs ys : List ModuleItem)
    → functions_of k before (xs ++ ys) ≡ functions_of k before xs ++ functions_of (k + length (functions_of k before xs)) (options_behind before xs) ys
functions_behind k before [] ys = ap (λ j. functions_of j before ys) (let e : k ≡ k + 0 = omega arith in e)
functions_behind k before (TextAt l ∷ xs) ys = functions_behind k None xs ys
functions_behind k before (FunctionAt l f ps b ∷ xs) ys =
    let d : Definition = record { number = k; line = l; name = f; parameters = ps; body = b; options = before } in
    let n : ℕ = length (functions_of (suc k) None xs) in
    let e : suc k + n ≡ k + suc n = omega arith in
    ap (λ ds. d ∷ ds) (functions_behind (suc k) None xs ys ∙ ap (λ j. functions_of (suc k) None xs ++ functions_of j (options_behind None xs) ys) e)
functions_behind k before (LineAt l (line.Test ss) ∷ xs) ys = functions_behind k (Some ss) xs ys
functions_behind k before (LineAt l (line.Constant m c) ∷ xs) ys = functions_behind k None xs ys
functions_behind k before (LineAt l (line.Import m) ∷ xs) ys = functions_behind k None xs ys
functions_behind k before (LineAt l (line.FromImport ms ns) ∷ xs) ys = functions_behind k None xs ys
functions_behind k before (LineAt l (line.Factory m f) ∷ xs) ys = functions_behind k None xs ys
functions_behind k before (LineAt l (line.AddOption m o cs) ∷ xs) ys = functions_behind k None xs ys
functions_behind k before (LineAt l (line.GenerateTests m p q) ∷ xs) ys = functions_behind k None xs ys
functions_behind k before (LineAt l (line.Function m ps) ∷ xs) ys = functions_behind k None xs ys

-- what stands behind a list
first_behind : {A : Type 0} (xs : List A) (y : A) (rest : List A) → slice_get (xs ++ y ∷ rest) (length xs) ≡ Some y
first_behind [] y rest = refl
first_behind (x ∷ xs) y rest = first_behind xs y rest

-- the function whose header stands behind these items
abbrev behind : List ModuleItem → ℕ → Name → List Parameter → Block → Definition
behind xs l f ps b =
    record { number = length (functions_of 0 None xs); line = l; name = f; parameters = ps; body = b; options = options_behind None xs }

next_is : (xs ys : List ModuleItem) (l : ℕ) (f : Name) (ps : List Parameter) (b : Block)
    → next_function (file_of (xs ++ FunctionAt l f ps b ∷ ys)) (file_of xs) ≡ Some (behind xs l f ps b)
next_is xs ys l f ps b =
    let n : ℕ = length (functions_of 0 None xs) in
    let e : 0 + n ≡ n = omega arith in
    ap (λ ds. slice_get ds n) (functions_behind 0 None xs (FunctionAt l f ps b ∷ ys) ∙ ap (λ j. functions_of 0 None xs ++ functions_of j (options_behind None xs) (FunctionAt l f ps b ∷ ys)) e)
    ∙ first_behind (functions_of 0 None xs) (behind xs l f ps b) (functions_of (suc n) None ys)

-- there is one exactly where the last item is a decorator
decorated : (before : Option (List Setting)) (last : Option ModuleItem) (xs : List ModuleItem) → is_some before ≡ option_map_or is_decorator last false
    → is_some (options_behind before xs) ≡ option_map_or is_decorator (last_or last xs) false
decorated before last [] h = h
decorated before last (TextAt l ∷ xs) h = decorated None (Some (TextAt l)) xs refl
decorated before last (FunctionAt l f ps b ∷ xs) h = decorated None (Some (FunctionAt l f ps b)) xs refl
decorated before last (LineAt l (line.Test ss) ∷ xs) h = decorated (Some ss) (Some (LineAt l (line.Test ss))) xs refl
decorated before last (LineAt l (line.Constant m c) ∷ xs) h = decorated None (Some (LineAt l (line.Constant m c))) xs refl
decorated before last (LineAt l (line.Import m) ∷ xs) h = decorated None (Some (LineAt l (line.Import m))) xs refl
decorated before last (LineAt l (line.FromImport ms ns) ∷ xs) h = decorated None (Some (LineAt l (line.FromImport ms ns))) xs refl
decorated before last (LineAt l (line.Factory m f) ∷ xs) h = decorated None (Some (LineAt l (line.Factory m f))) xs refl
decorated before last (LineAt l (line.AddOption m o cs) ∷ xs) h = decorated None (Some (LineAt l (line.AddOption m o cs))) xs refl
decorated before last (LineAt l (line.GenerateTests m p q) ∷ xs) h = decorated None (Some (LineAt l (line.GenerateTests m p q))) xs refl
decorated before last (LineAt l (line.Function m ps) ∷ xs) h = decorated None (Some (LineAt l (line.Function m ps))) xs refl

decorated_behind : (xs : List ModuleItem) → is_some (options_behind None xs) ≡ is_decorated_behind xs
decorated_behind xs = decorated None None xs refl

pub misfit_by_parts : (xs ys : List ModuleItem) (x : ModuleItem)
    → has_misfit (file_of (xs ++ x ∷ ys)) (record { item = x; above = xs; below = ys })
    ≡ (is_function x && lacks_parameters (is_decorated_behind xs) (is_made_name (file_of (xs ++ x ∷ ys)) (function_name x)) (parameters_of x))
misfit_by_parts xs ys (TextAt l) = refl
misfit_by_parts xs ys (LineAt l x) = refl
misfit_by_parts xs ys (FunctionAt l f ps b) =
    ap (λ (o : Option Definition). misfits o) (next_is xs ys l f ps b)
    ∙ ap (λ d. lacks_parameters d (is_made_name (file_of (xs ++ FunctionAt l f ps b ∷ ys)) f) ps) (decorated_behind xs)
  where
    misfits : Option Definition → Bool
    misfits o = is_misfit_at (file_of (xs ++ FunctionAt l f ps b ∷ ys)) o

-- a function is a test where it is decorated and no factory's
pub test_by_parts : (xs ys : List ModuleItem) (l : ℕ) (f : Name) (ps : List Parameter) (b : Block)
    → one_test (file_of (xs ++ FunctionAt l f ps b ∷ ys)) (next_function (file_of (xs ++ FunctionAt l f ps b ∷ ys)) (file_of xs))
    ≡ (if is_decorated_behind xs && not (is_made_name (file_of (xs ++ FunctionAt l f ps b ∷ ys)) f) then 1 else 0)
test_by_parts xs ys l f ps b =
    ap (λ (o : Option Definition). one_test (file_of (xs ++ FunctionAt l f ps b ∷ ys)) o) (next_is xs ys l f ps b)
    ∙ ap (λ d. if d && not (is_made_name (file_of (xs ++ FunctionAt l f ps b ∷ ys)) f) then 1 else 0) (decorated_behind xs)

-- the last item is a decorator
pub decorated_by_last : (xs : List ModuleItem) (x : ModuleItem) → is_decorated_behind (xs ++ x ∷ []) ≡ is_decorator x
decorated_by_last xs x = ap (λ (o : Option ModuleItem). option_map_or is_decorator o false) (sym (last_more None xs x))

or_none : (a : Bool) → (a || false) ≡ a
or_none true = refl
or_none false = refl

-- whether the function of an item is a test, where it is decorated or not
only_test : (f : File) (k : ℕ) (before : Option (List Setting)) (x : ModuleItem)
    → list_any (is_test f) (functions_of k before (x ∷ [])) ≡ (is_function x && (is_some before && not (is_made_name f (function_name x))))
only_test f k before (TextAt l) = refl
only_test f k before (FunctionAt l g ps b) = or_none (is_some before && not (is_made_name f g))
only_test f k before (LineAt l (line.Test ss)) = refl
only_test f k before (LineAt l (line.Constant m c)) = refl
only_test f k before (LineAt l (line.Import m)) = refl
only_test f k before (LineAt l (line.FromImport ms ns)) = refl
only_test f k before (LineAt l (line.Factory m g)) = refl
only_test f k before (LineAt l (line.AddOption m o cs)) = refl
only_test f k before (LineAt l (line.GenerateTests m p q)) = refl
only_test f k before (LineAt l (line.Function m ps)) = refl

-- one of the functions of these items and of one more is a test
pub test_with_item : (f : File) (xs : List ModuleItem) (x : ModuleItem)
    → list_any (is_test f) (file_of (xs ++ x ∷ [])).functions
    ≡ (list_any (is_test f) (file_of xs).functions || (is_function x && (is_decorated_behind xs && not (is_made_name f (function_name x)))))
test_with_item f xs x =
    let k : ℕ = 0 + length (functions_of 0 None xs) in
    ap (λ ds. list_any (is_test f) ds) (functions_behind 0 None xs (x ∷ []))
    ∙ list_any-append (is_test f) (functions_of 0 None xs) (functions_of k (options_behind None xs) (x ∷ []))
    ∙ ap (λ b. list_any (is_test f) (functions_of 0 None xs) || b)
    (only_test f k (options_behind None xs) x ∙ ap (λ d. is_function x && (d && not (is_made_name f (function_name x)))) (decorated_behind xs))
