-- One item more, and the places of the literals that constants stand for.
use Rattle.std.proofs.Common.{◌≡◌, ◌∙◌, ◌<◌, ◌≤◌, ◌+◌, ℕ, Bool, true, false, List, [], ◌∷◌, ◌++◌, length, map, take, get_or, slice_get, option_and_then, option_map, Option, None, Some, refl, sym, ap, subst, if◌then◌else◌}
use Rattle.std.specs.Prelude.{bytes_eq}
use Rattle.std.specs.Option.{option_or}
use Rattle.std.proofs.lemmas.List.{map-append, take_all, take_more}
use Rattle.std.proofs.lemmas.List.Folds.{find-append}
use Rattle.std.proofs.lemmas.Option.{slice_get-get_or, slice_get-map}
use Rattle.py_syntax.specs.BlockTrees.{ModuleItem, TextAt, LineAt, FunctionAt, view_module_item}
use Rattle.py_syntax.specs.declared.tree.ModuleItem as tree
use Rattle.py_syntax.specs.ModuleTrees as line
use Rattle.py_syntax.specs.declared.constant.Const.{Const}
use Rattle.py_syntax.specs.declared.constant.Const.TheVariants as constant
use Rattle.name_table.specs.Places.{Places, noted, nowhere}
use Rattle.test_meaning.specs.Rules.File.{Fixed, constants_of, fixed_of, fixed_value, value_in}
use Rattle.test_meaning.specs.Rules.Names.{Name}
use Rattle.test_meaning.proofs.RulesLemmas.Texts.{same_bytes}
use Rattle.test_refusal.specs.Values.Literals.{fixed_literal, literal_at, literal_of}
use Rattle.test_refusal.specs.Values.Notes.{noted_constant, or_place, place_of}

abbrev StandsAt : List ModuleItem → Option ℕ → Option Fixed → Type 0
StandsAt xs o f = option_map (literal_at xs) o ≡ fixed_literal f

abbrev pub Stand : List ModuleItem → Places → List Fixed → Type 0
Stand xs s ks = (n : Name) → StandsAt xs (s n) (fixed_of ks n)

-- ---- a constant more

-- what its literal stands for, where it is a name
named_stands : (xs : List ModuleItem) (i : ℕ) (p : Name) (o : Option ℕ) (f : Option Fixed) → literal_at xs i ≡ Some (constant.Named p) → StandsAt xs o f
    → literal_at xs (or_place i o) ≡ Some (fixed_value (constant.Named p) f)
named_stands xs i p None None e h = e
named_stands xs i p None (Some k) e h = cc
named_stands xs i p (Some j) None e h = cc
named_stands xs i p (Some j) (Some k) e h = let f : literal_at xs j ≡ Some k.value = cc in f

value_stands : (xs : List ModuleItem) (s : Places) (ks : List Fixed) (i : ℕ) (c : Const) → Stand xs s ks → literal_at xs i ≡ Some c
    → literal_at xs (place_of s c i) ≡ Some (value_in ks c)
value_stands xs s ks i (constant.Named p) h e = named_stands xs i p (s p) (fixed_of ks p) e (h p)
value_stands xs s ks i constant.Absent h e = e
value_stands xs s ks i (constant.Truth b) h e = e
value_stands xs s ks i (constant.Whole z) h e = e
value_stands xs s ks i (constant.Text t) h e = e

-- the first of a name counts
one_more : (xs : List ModuleItem) (j : ℕ) (k : Fixed) (o : Option ℕ) (f : Option Fixed) (b c : Bool) → b ≡ c → StandsAt xs o f → literal_at xs j ≡ Some k.value
    → StandsAt xs (option_or o (if b then Some j else None)) (option_or f (if c then Some k else None))
one_more xs j k (Some i) (Some g) b c e h l = h
one_more xs j k (Some i) None b c e h l = cc
one_more xs j k None (Some g) b c e h l = cc
one_more xs j k None None true true e h l = ap Some l
one_more xs j k None None false false e h l = refl
one_more xs j k None None true false e h l = cc
one_more xs j k None None false true e h l = cc

constant_more : (xs : List ModuleItem) (s : Places) (ks : List Fixed) (i : ℕ) (m : Name) (c : Const) → Stand xs s ks → literal_at xs i ≡ Some c
    → Stand xs (noted m (place_of s c i) s) (ks ++ record { name = m; value = value_in ks c } ∷ [])
constant_more xs s ks i m c h e n =
    let k : Fixed = record { name = m; value = value_in ks c } in
    subst (λ f. StandsAt xs (noted m (place_of s c i) s n) f) (sym (find-append (λ (j : Fixed). bytes_eq j.name n) ks (k ∷ [])))
    (one_more xs (place_of s c i) k (s n) (fixed_of ks n) (bytes_eq n m) (bytes_eq m n) (sym (same_bytes m n)) (h n) (value_stands xs s ks i c h e))

-- ---- an item more

item_more : (xs : List ModuleItem) (s : Places) (ks : List Fixed) (i : ℕ) (x : ModuleItem) → Stand xs s ks → slice_get xs i ≡ Some x
    → Stand xs (noted_constant x i s) (constants_of ks (x ∷ []))
item_more xs s ks i (TextAt l) h e n = h n
item_more xs s ks i (FunctionAt l f ps b) h e n = h n
item_more xs s ks i (LineAt l (line.Constant m c)) h e n = constant_more xs s ks i m c h (ap (λ o. option_and_then literal_of o) e) n
item_more xs s ks i (LineAt l (line.Import m)) h e n = h n
item_more xs s ks i (LineAt l (line.FromImport ms ns)) h e n = h n
item_more xs s ks i (LineAt l (line.Test ss)) h e n = h n
item_more xs s ks i (LineAt l (line.Factory m f)) h e n = h n
item_more xs s ks i (LineAt l (line.AddOption m o cs)) h e n = h n
item_more xs s ks i (LineAt l (line.GenerateTests m p q)) h e n = h n
item_more xs s ks i (LineAt l (line.Function m ps)) h e n = h n

constants_both : (ks : List Fixed) (xs ys : List ModuleItem) → constants_of ks (xs ++ ys) ≡ constants_of (constants_of ks xs) ys
constants_both ks [] ys = refl
constants_both ks (TextAt l ∷ xs) ys = constants_both ks xs ys
constants_both ks (FunctionAt l f ps b ∷ xs) ys = constants_both ks xs ys
constants_both ks (LineAt l (line.Constant m c) ∷ xs) ys = constants_both (ks ++ record { name = m; value = value_in ks c } ∷ []) xs ys
constants_both ks (LineAt l (line.Import m) ∷ xs) ys = constants_both ks xs ys
constants_both ks (LineAt l (line.FromImport ms ns) ∷ xs) ys = constants_both ks xs ys
constants_both ks (LineAt l (line.Test ss) ∷ xs) ys = constants_both ks xs ys
constants_both ks (LineAt l (line.Factory m f) ∷ xs) ys = constants_both ks xs ys
constants_both ks (LineAt l (line.AddOption m o cs) ∷ xs) ys = constants_both ks xs ys
constants_both ks (LineAt l (line.GenerateTests m p q) ∷ xs) ys = constants_both ks xs ys
constants_both ks (LineAt l (line.Function m ps) ∷ xs) ys = constants_both ks xs ys

-- ---- the items in their order

-- what is known of the first items
abbrev pub StandSoFar : List tree.ModuleItem → ℕ → Places → Type 0
StandSoFar items i s = Stand (map view_module_item items) s (constants_of [] (map view_module_item (take i items)))

pub none_yet : (items : List tree.ModuleItem) (s : Places) → s ≡ nowhere → StandSoFar items 0 s
none_yet items s e n = ap (λ (t : Places). option_map (literal_at (map view_module_item items)) (t n)) e

pub item_stands : (items : List tree.ModuleItem) (i : ℕ) (x : tree.ModuleItem) (s t : Places) → i < length items → x ≡ get_or items i x
    → ((n : Name) → t n ≡ noted_constant (view_module_item x) i s n) → StandSoFar items i s → StandSoFar items (i + 1) t
item_stands items i x s t h is e before =
    subst (λ ks. Stand (map view_module_item items) t ks) (sym constants)
    (λ n. subst (λ o. StandsAt (map view_module_item items) o (fixed_of (constants_of (constants_of [] (map view_module_item (take i items))) (view_module_item x ∷ [])) n)) (sym (e n))
    (item_more (map view_module_item items) s (constants_of [] (map view_module_item (take i items))) i (view_module_item x) before here n))
  where
    here : slice_get (map view_module_item items) i ≡ Some (view_module_item x)
    here = slice_get-map view_module_item items i ∙ ap (λ o. option_map view_module_item o) (slice_get-get_or items i x h ∙ ap Some (sym is))

    constants : constants_of [] (map view_module_item (take (i + 1) items)) ≡ constants_of (constants_of [] (map view_module_item (take i items))) (view_module_item x ∷ [])
    constants =
        ap (λ xs. constants_of [] (map view_module_item xs)) (take_more items i x h ∙ ap (λ y. take i items ++ y ∷ []) (sym is))
        ∙ ap (λ xs. constants_of [] xs) (map-append view_module_item (take i items) (x ∷ []))
        ∙ constants_both [] (map view_module_item (take i items)) (view_module_item x ∷ [])

pub all_stand : (items : List tree.ModuleItem) (i : ℕ) (s : Places) → length items ≤ i → StandSoFar items i s → Stand (map view_module_item items) s (constants_of [] (map view_module_item items))
all_stand items i s h so = subst (λ xs. Stand (map view_module_item items) s (constants_of [] (map view_module_item xs))) (take_all i items h) so
