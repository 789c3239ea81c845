-- The functions of a module in their order.
use Rattle.std.specs.Prelude.{Result, Ok, Err, IfOk}
use Rattle.std.proofs.Common.{◌≡◌, ◌<◌, ◌≤◌, ◌+◌, ℕ, suc, Bool, true, false, List, [], ◌∷◌, ◌++◌, length, map, drop, drop-cons, add-one, Option, Some, None, get_or, refl, sym, ap, ◌∙◌, cond, if◌then◌else◌, arith}
use Rattle.std.proofs.lemmas.List.{drop_all, append-nil}
use Rattle.std.specs.List.{filter_map, cons_option, find, position_from}
use Rattle.std.specs.Option.{option_map, option_or}
use Rattle.std.specs.Str.{bytes_eq}
use Rattle.py_syntax.specs.BlockTrees.{ModuleItem, TextAt, LineAt, FunctionAt, view_module_item}
use Rattle.py_syntax.specs.ModuleTrees as line
use Rattle.py_syntax.specs.declared.module.Setting.{Setting}
use Rattle.py_syntax.specs.declared.tree.ModuleItem as code
use Rattle.test_meaning.specs.Body.BodyTrees.{Function}
use Rattle.test_meaning.specs.Body.Views.{view_function}
use Rattle.test_meaning.specs.declared.body.file.Function as function
use Rattle.test_names.specs.Definitions.Definitions.{defined}
use Rattle.test_names.specs.declared.definitions.item.Kind.TheVariants as kind
use Rattle.test_functions.specs.Numbers.{AreFunctionNumbers}
use Rattle.test_functions.specs.declared.numbers.FunctionNumbers.{FunctionNumbers}
use Rattle.test_meaning.specs.Bodies.{function_in}
use Rattle.test_meaning.specs.Library.{functions, library}
use Rattle.name_table.specs.Places.{first_place}
use Rattle.name_table.proofs.Stored.{unchanged}
use Rattle.test_meaning.specs.Rules.File.{File, Definition, file_of, functions_of}
use Rattle.test_meaning.specs.Rules.Names.{Name}
use Rattle.test_meaning.proofs.RulesLemmas.Texts.{same_bytes}

-- ---- names

-- the names of the functions among these items
abbrev pub function_names : List ModuleItem → List Name
function_names xs = filter_map (defined kind.Function) xs

-- the number of the first of two, or of the rest
chosen : (k : ℕ) (d : Definition) (b c : Bool) (p : Option ℕ) (r : Option Definition) → d.number ≡ k → b ≡ c → p ≡ option_map (λ (d : Definition). d.number) r
    → cond b (Some k) p ≡ option_map (λ (d : Definition). d.number) (cond c (Some d) r)
chosen k d true true p r same e more = ap (λ (j : ℕ). Some j) (sym same)
chosen k d false false p r same e more = more
chosen k d true false p r same e more = cc
chosen k d false true p r same e more = cc

-- each definition has the place of its name
numbers_in : (k : ℕ) (before : Option (List Setting)) (xs : List ModuleItem) (n : Name)
    → position_from (bytes_eq n) k (function_names xs) ≡ option_map (λ (d : Definition). d.number) (find (λ (d : Definition). bytes_eq d.name n) (functions_of k before xs))
numbers_in k before [] n = refl
numbers_in k before (TextAt l ∷ xs) n = numbers_in k None xs n
numbers_in k before (FunctionAt l f ps b ∷ xs) n =
    chosen k (record { number = k; line = l; name = f; parameters = ps; body = b; options = before }) (bytes_eq n f) (bytes_eq f n) _ _ refl (sym (same_bytes f n))
    (ap (λ j. position_from (bytes_eq n) j (function_names xs)) (add-one k) ∙ numbers_in (suc k) None xs n)
numbers_in k before (LineAt l (line.Test ss) ∷ xs) n = numbers_in k (Some ss) xs n
numbers_in k before (LineAt l (line.Constant m c) ∷ xs) n = numbers_in k None xs n
numbers_in k before (LineAt l (line.Import m) ∷ xs) n = numbers_in k None xs n
numbers_in k before (LineAt l (line.FromImport ms ns) ∷ xs) n = numbers_in k None xs n
numbers_in k before (LineAt l (line.Factory m f) ∷ xs) n = numbers_in k None xs n
numbers_in k before (LineAt l (line.AddOption m o cs) ∷ xs) n = numbers_in k None xs n
numbers_in k before (LineAt l (line.GenerateTests m p q) ∷ xs) n = numbers_in k None xs n
numbers_in k before (LineAt l (line.Function m ps) ∷ xs) n = numbers_in k None xs n

count_in : (k : ℕ) (before : Option (List Setting)) (xs : List ModuleItem) → length (function_names xs) ≡ length (functions_of k before xs)
count_in k before [] = refl
count_in k before (TextAt l ∷ xs) = count_in k None xs
count_in k before (FunctionAt l f ps b ∷ xs) = ap suc (count_in (suc k) None xs)
count_in k before (LineAt l (line.Test ss) ∷ xs) = count_in k (Some ss) xs
count_in k before (LineAt l (line.Constant m c) ∷ xs) = count_in k None xs
count_in k before (LineAt l (line.Import m) ∷ xs) = count_in k None xs
count_in k before (LineAt l (line.FromImport ms ns) ∷ xs) = count_in k None xs
count_in k before (LineAt l (line.Factory m f) ∷ xs) = count_in k None xs
count_in k before (LineAt l (line.AddOption m o cs) ∷ xs) = count_in k None xs
count_in k before (LineAt l (line.GenerateTests m p q) ∷ xs) = count_in k None xs
count_in k before (LineAt l (line.Function m ps) ∷ xs) = count_in k None xs

-- ---- numbers, item by item

abbrev pub names_from : ℕ → List code.ModuleItem → List Name
names_from i items = function_names (map view_module_item (drop i items))

-- what is noted already, and what one name more and the rest tell
pub one_more : (i : ℕ) (b : Bool) (o r : Option ℕ) → option_or (option_or o (if b then Some i else None)) r ≡ option_or o (cond b (Some i) r)
one_more i b (Some k) r = refl
one_more i true None r = refl
one_more i false None r = refl

-- the item at a place, and those behind it
pub here : (items : List code.ModuleItem) (i : ℕ) (x : code.ModuleItem) → i < length items → x ≡ get_or items i x
    → names_from i items ≡ cons_option (defined kind.Function (view_module_item x)) (names_from (i + 1) items)
here items i x h is =
    ap (λ ys. function_names (map view_module_item ys)) (drop-cons items i x h ∙ ap (λ y. y ∷ drop (suc i) items) (sym is))
    ∙ ap (λ j. cons_option (defined kind.Function (view_module_item x)) (names_from j items)) (sym (add-one i))

-- behind the last item
none_behind : (items : List code.ModuleItem) (i : ℕ) → length items ≤ i → names_from i items ≡ []
none_behind items i h = ap (λ ys. function_names (map view_module_item ys)) (drop_all i items h)

pub all_numbered : (items : List code.ModuleItem) (i : ℕ) (t : FunctionNumbers) → length items ≤ i
    → t.count + length (names_from i items) ≡ length (names_from 0 items)
    → ((n : Name) → option_or (first_place t.numbers n) (position_from (bytes_eq n) t.count (names_from i items)) ≡ position_from (bytes_eq n) 0 (names_from 0 items))
    → AreFunctionNumbers (map view_module_item items) t
all_numbered items i t h e all = record {
  numbers = λ n. unchanged (first_place t.numbers n)
      ∙ ap (λ ns. option_or (first_place t.numbers n) (position_from (bytes_eq n) t.count ns)) (sym (none_behind items i h))
      ∙ all n ∙ numbers_in 0 None (map view_module_item items) n;
  count = (let z : t.count ≡ t.count + 0 = omega arith in z) ∙ ap (λ (ns : List Name). t.count + length ns) (sym (none_behind items i h))
      ∙ e ∙ count_in 0 None (map view_module_item items);
}

-- ---- functions, item by item

-- what an item's function stands for
abbrev pub made_of : File → ModuleItem → Option Function
made_of f (FunctionAt l n ps b) = Some (function_in f ps b)
made_of f _ = None

abbrev pub made_from : File → ℕ → List code.ModuleItem → List Function
made_from f i items = filter_map (made_of f) (map view_module_item (drop i items))

functions_in : (f : File) (k : ℕ) (before : Option (List Setting)) (xs : List ModuleItem)
    → filter_map (made_of f) xs ≡ map (λ (d : Definition). function_in f d.parameters d.body) (functions_of k before xs)
functions_in f k before [] = refl
functions_in f k before (TextAt l ∷ xs) = functions_in f k None xs
functions_in f k before (FunctionAt l n ps b ∷ xs) = ap (λ gs. function_in f ps b ∷ gs) (functions_in f (suc k) None xs)
functions_in f k before (LineAt l (line.Test ss) ∷ xs) = functions_in f k (Some ss) xs
functions_in f k before (LineAt l (line.Constant m c) ∷ xs) = functions_in f k None xs
functions_in f k before (LineAt l (line.Import m) ∷ xs) = functions_in f k None xs
functions_in f k before (LineAt l (line.FromImport ms ns) ∷ xs) = functions_in f k None xs
functions_in f k before (LineAt l (line.Factory m g) ∷ xs) = functions_in f k None xs
functions_in f k before (LineAt l (line.AddOption m o cs) ∷ xs) = functions_in f k None xs
functions_in f k before (LineAt l (line.GenerateTests m p q) ∷ xs) = functions_in f k None xs
functions_in f k before (LineAt l (line.Function m ps) ∷ xs) = functions_in f k None xs

-- behind the last item
pub all_made : (f : File) (items : List code.ModuleItem) (i : ℕ) (made : List Function) → length items ≤ i → made ++ made_from f i items ≡ made_from f 0 items
    → made ≡ map (λ (d : Definition). function_in f d.parameters d.body) (file_of (map view_module_item items)).functions
all_made f items i made h so =
    sym (append-nil made) ∙ ap (λ ys. made ++ filter_map (made_of f) (map view_module_item ys)) (sym (drop_all i items h))
    ∙ so ∙ functions_in f 0 None (map view_module_item items)

-- three more behind them
pub with_three : (made : List function.Function) (x y z : function.Function)
    → map view_function (((made ++ x ∷ []) ++ y ∷ []) ++ z ∷ []) ≡ map view_function made ++ view_function x ∷ view_function y ∷ view_function z ∷ []
with_three [] x y z = refl
with_three (f ∷ made) x y z = ap (λ (gs : List Function). view_function f ∷ gs) (with_three made x y z)

-- and those of the library behind them
pub with_others : (f : File) (items : List code.ModuleItem) (i : ℕ) (made new : List function.Function) → f ≡ file_of (map view_module_item items)
    → length items ≤ i → map view_function made ++ made_from f i items ≡ made_from f 0 items → map view_function new ≡ map view_function made ++ library
    → map view_function new ≡ functions f
with_others f items i made new is h so more =
    more
    ∙ ap (λ (gs : List Function). gs ++ library) (all_made f items i (map view_function made) h so)
    ∙ ap (λ (g : File). map (λ (d : Definition). function_in f d.parameters d.body) g.functions ++ library) (sym is)

-- unless memory was wanting
pub if_others : {E : Type 0} (f : File) (items : List code.ModuleItem) (i : ℕ) (made : List function.Function) (r : Result (List function.Function) E)
    → f ≡ file_of (map view_module_item items) → length items ≤ i → map view_function made ++ made_from f i items ≡ made_from f 0 items
    → IfOk r (λ new. map view_function new ≡ map view_function made ++ library) → IfOk r (λ new. map view_function new ≡ functions f)
if_others f items i made (Ok new) is h so more = with_others f items i made new is h so more
if_others f items i made (Err e) is h so more = tt
