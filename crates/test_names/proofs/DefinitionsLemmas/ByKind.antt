-- The definitions of a kind are those of the items.
use Rattle.std.proofs.Common.{◌≡◌, ℕ, suc, Bool, true, false, ◌||◌, List, [], ◌∷◌, ◌++◌, Option, Some, None, refl, sym, ap, ◌∙◌, if◌then◌else◌}
use Rattle.std.specs.List.{list_any, find, flat_map}
use Rattle.std.specs.Option.{is_some, option_map, option_or}
use Rattle.std.specs.Str.{bytes_eq}
use Rattle.std.proofs.lemmas.List.Folds.{find-append, list_any-append}
use Rattle.py_syntax.specs.BlockTrees.{ModuleItem, TextAt, LineAt, FunctionAt}
use Rattle.py_syntax.specs.ModuleTrees as line
use Rattle.py_syntax.specs.declared.module.Parameter.{Parameter}
use Rattle.py_syntax.specs.declared.module.Setting.{Setting}
use Rattle.test_meaning.specs.Rules.File.{Fixed, Definition, fixed_of, value_in, constants_of, functions_of, file_of, function, factory, parameters_of, names_of}
use Rattle.test_meaning.specs.Rules.Names.{Name, is_among}
use Rattle.test_meaning.proofs.RulesLemmas.Texts.{same_bytes}
use Rattle.test_names.specs.Definitions.Definitions.{defines, is_defined}
use Rattle.test_names.specs.declared.definitions.item.Kind.TheVariants as kind

or_none : (a : Bool) → a ≡ (a || false)
or_none true = refl
or_none false = refl

or_more : (a b c : Bool) → ((a || b) || c) ≡ (a || (b || c))
or_more true b c = refl
or_more false b c = refl

some_or : {A : Type 0} (o p : Option A) → is_some (option_or o p) ≡ (is_some o || is_some p)
some_or None p = refl
some_or (Some a) p = refl

some_map : {A B : Type 0} (f : A → B) (o : Option A) → is_some (option_map f o) ≡ is_some o
some_map f None = refl
some_map f (Some a) = refl

-- one element more, which passes or doesn't
some_more : {A : Type 0} (t u v : Bool) (a : A) (r : Option A) → t ≡ u → is_some r ≡ v → is_some (if t then Some a else r) ≡ (u || v)
some_more true true v a r e p = refl
some_more false false v a r e p = p
some_more true false v a r e p = cc
some_more false true v a r e p = cc

some_found : {A : Type 0} (p : A → Bool) (xs : List A) → is_some (find p xs) ≡ list_any p xs
some_found p [] = refl
some_found p (x ∷ xs) = some_more (p x) (p x) (list_any p xs) x (find p xs) refl (some_found p xs)

-- ---- names

pub names_are_defined : (xs : List ModuleItem) (n : Name) → is_among n (file_of xs).names ≡ list_any (defines n) xs
names_are_defined [] n = refl
names_are_defined (x ∷ xs) n =
    list_any-append (bytes_eq n) (names_of x) (flat_map names_of xs) ∙ ap (λ b. defines n x || b) (names_are_defined xs n)

-- ---- constants

one_constant : (ks : List Fixed) (k : Fixed) (n : Name) → is_some (fixed_of (ks ++ k ∷ []) n) ≡ (is_some (fixed_of ks n) || bytes_eq n k.name)
one_constant ks k n =
    ap (λ (o : Option Fixed). is_some o) (find-append (λ (j : Fixed). bytes_eq j.name n) ks (k ∷ []))
    ∙ some_or (fixed_of ks n) (fixed_of (k ∷ []) n)
    ∙ ap (λ b. is_some (fixed_of ks n) || b) (some_more (bytes_eq k.name n) (bytes_eq n k.name) false k None (same_bytes k.name n) refl ∙ sym (or_none (bytes_eq n k.name)))

constants_in : (ks : List Fixed) (xs : List ModuleItem) (n : Name)
    → is_some (fixed_of (constants_of ks xs) n) ≡ (is_some (fixed_of ks n) || list_any (is_defined kind.Constant n) xs)
constants_in ks [] n = or_none (is_some (fixed_of ks n))
constants_in ks (TextAt l ∷ xs) n = constants_in ks xs n
constants_in ks (FunctionAt l f ps b ∷ xs) n = constants_in ks xs n
constants_in ks (LineAt l (line.Constant m c) ∷ xs) n =
    let k : Fixed = record { name = m; value = value_in ks c } in
    constants_in (ks ++ k ∷ []) xs n
    ∙ ap (λ b. b || list_any (is_defined kind.Constant n) xs) (one_constant ks k n)
    ∙ or_more (is_some (fixed_of ks n)) (bytes_eq n m) (list_any (is_defined kind.Constant n) xs)
constants_in ks (LineAt l (line.Import m) ∷ xs) n = constants_in ks xs n
constants_in ks (LineAt l (line.FromImport ms ns) ∷ xs) n = constants_in ks xs n
constants_in ks (LineAt l (line.Test ss) ∷ xs) n = constants_in ks xs n
constants_in ks (LineAt l (line.Factory m f) ∷ xs) n = constants_in ks xs n
constants_in ks (LineAt l (line.AddOption m o cs) ∷ xs) n = constants_in ks xs n
constants_in ks (LineAt l (line.GenerateTests m p q) ∷ xs) n = constants_in ks xs n
constants_in ks (LineAt l (line.Function m ps) ∷ xs) n = constants_in ks xs n

pub constants_are_defined : (xs : List ModuleItem) (n : Name) → is_some (fixed_of (file_of xs).constants n) ≡ list_any (is_defined kind.Constant n) xs
constants_are_defined xs n = constants_in [] xs n

-- ---- functions

chosen : {A B C : Type 0} (g : A → C) (h : B → C) (a : A) (b : B) (r : Option A) (s : Option B) (t u : Bool) → t ≡ u → g a ≡ h b
    → option_map g r ≡ option_map h s → option_map g (if t then Some a else r) ≡ option_map h (if u then Some b else s)
chosen g h a b r s true true e p q = ap (λ c. Some c) p
chosen g h a b r s false false e p q = q
chosen g h a b r s true false e p q = cc
chosen g h a b r s false true e p q = cc

functions_in : (k : ℕ) (before : Option (List Setting)) (xs : List ModuleItem) (n : Name)
    → option_map (λ (d : Definition). d.parameters) (find (λ (d : Definition). bytes_eq d.name n) (functions_of k before xs)) ≡ option_map parameters_of (find (is_defined kind.Function n) xs)
functions_in k before [] n = refl
functions_in k before (TextAt l ∷ xs) n = functions_in k None xs n
functions_in k before (FunctionAt l f ps b ∷ xs) n =
    chosen (λ (d : Definition). d.parameters) parameters_of (record { number = k; line = l; name = f; parameters = ps; body = b; options = before }) (FunctionAt l f ps b)
    _ _ (bytes_eq f n) (bytes_eq n f) (same_bytes f n) refl (functions_in (suc k) None xs n)
functions_in k before (LineAt l (line.Test ss) ∷ xs) n = functions_in k (Some ss) xs n
functions_in k before (LineAt l (line.Constant m c) ∷ xs) n = functions_in k None xs n
functions_in k before (LineAt l (line.Import m) ∷ xs) n = functions_in k None xs n
functions_in k before (LineAt l (line.FromImport ms ns) ∷ xs) n = functions_in k None xs n
functions_in k before (LineAt l (line.Factory m f) ∷ xs) n = functions_in k None xs n
functions_in k before (LineAt l (line.AddOption m o cs) ∷ xs) n = functions_in k None xs n
functions_in k before (LineAt l (line.GenerateTests m p q) ∷ xs) n = functions_in k None xs n
functions_in k before (LineAt l (line.Function m ps) ∷ xs) n = functions_in k None xs n

pub functions_have_parameters : (xs : List ModuleItem) (n : Name)
    → option_map (λ (d : Definition). d.parameters) (function (file_of xs) n) ≡ option_map parameters_of (find (is_defined kind.Function n) xs)
functions_have_parameters xs n = functions_in 0 None xs n

pub functions_are_defined : (xs : List ModuleItem) (n : Name) → is_some (function (file_of xs) n) ≡ list_any (is_defined kind.Function n) xs
functions_are_defined xs n =
    sym (some_map (λ (d : Definition). d.parameters) (function (file_of xs) n))
    ∙ ap (λ (o : Option (List Parameter)). is_some o) (functions_have_parameters xs n)
    ∙ some_map parameters_of (find (is_defined kind.Function n) xs)
    ∙ some_found (is_defined kind.Function n) xs

-- ---- factories

pub factories_are_defined : (xs : List ModuleItem) (n : Name) → is_some (factory (file_of xs) n) ≡ list_any (is_defined kind.Factory n) xs
factories_are_defined [] n = refl
factories_are_defined (TextAt l ∷ xs) n = factories_are_defined xs n
factories_are_defined (FunctionAt l f ps b ∷ xs) n = factories_are_defined xs n
factories_are_defined (LineAt l (line.Factory m f) ∷ xs) n =
    some_more (bytes_eq m n) (bytes_eq n m) _ (record { name = m; function = f }) (factory (file_of xs) n) (same_bytes m n) (factories_are_defined xs n)
factories_are_defined (LineAt l (line.Test ss) ∷ xs) n = factories_are_defined xs n
factories_are_defined (LineAt l (line.Constant m c) ∷ xs) n = factories_are_defined xs n
factories_are_defined (LineAt l (line.Import m) ∷ xs) n = factories_are_defined xs n
factories_are_defined (LineAt l (line.FromImport ms ns) ∷ xs) n = factories_are_defined xs n
factories_are_defined (LineAt l (line.AddOption m o cs) ∷ xs) n = factories_are_defined xs n
factories_are_defined (LineAt l (line.GenerateTests m p q) ∷ xs) n = factories_are_defined xs n
factories_are_defined (LineAt l (line.Function m ps) ∷ xs) n = factories_are_defined xs n
