-- Names that stand twice.
use Rattle.std.proofs.Common.{◌≡◌, ◌<◌, ◌≤◌, ◌+◌, ℕ, suc, not, Bool, true, false, ◌||◌, List, [], ◌∷◌, ◌++◌, length, map, take, drop, drop-cons, add-one, Option, Some, None, get_or, refl, sym, ap, subst, ◌∙◌, if◌then◌else◌}
use Rattle.std.proofs.Math.Seq.{take-suc}
use Rattle.std.proofs.lemmas.Grind.{flat_map-append}
use Rattle.std.proofs.lemmas.List.{append-nil, append_assoc, map-append, take-append-drop, take_all}
use Rattle.std.proofs.lemmas.List.Folds.{list_any-append}
use Rattle.std.specs.List.{flat_map}
use Rattle.std.specs.Option.{option_or, is_some}
use Rattle.std.specs.Str.{bytes_eq}
use Rattle.py_syntax.specs.BlockTrees.{ModuleItem}
use Rattle.name_table.specs.Places.{first_place, noted, nowhere}
use Rattle.test_meaning.specs.Rules.File.{names_of, parameters_of}
use Rattle.test_meaning.specs.Rules.Names.{Name, is_among, come_twice}
use Rattle.test_meaning.specs.Rules.Rules.{defines_twice}
use Rattle.test_meaning.specs.Rules.Uses.{parameter_names}
use Rattle.test_names.specs.Duplicates.Twice.{Table, AreNames, IsWith, IsBelow, below}

or_true : (a : Bool) → (a || true) ≡ true
or_true true = refl
or_true false = refl

or_none : (a : Bool) → (a || false) ≡ a
or_none true = refl
or_none false = refl

or_more : (a b c : Bool) → ((a || b) || c) ≡ (a || (b || c))
or_more true b c = refl
or_more false b c = refl

or_swapped : (a b c : Bool) → (a || (b || c)) ≡ (b || (a || c))
or_swapped true true c = refl
or_swapped true false c = refl
or_swapped false b c = refl

-- It matters alone which names they are.
pub twice_same : (a b ms : List Name) → ((n : Name) → is_among n a ≡ is_among n b) → come_twice a ms ≡ come_twice b ms
twice_same a b [] h = refl
twice_same a b (m ∷ ms) h =
    ap (λ c. c || come_twice (m ∷ a) ms) (h m)
    ∙ ap (λ c. is_among m b || c) (twice_same (m ∷ a) (m ∷ b) ms (λ n. ap (λ c. bytes_eq n m || c) (h n)))

-- a name may stand in front or behind
moved : (m n : Name) (ns ms : List Name) → is_among n ((m ∷ ns) ++ ms) ≡ is_among n (ns ++ m ∷ ms)
moved m n ns ms =
    ap (λ c. bytes_eq n m || c) (list_any-append (bytes_eq n) ns ms) ∙ or_swapped (bytes_eq n m) (is_among n ns) (is_among n ms)
    ∙ sym (list_any-append (bytes_eq n) ns (m ∷ ms))

-- names, and then others
pub twice_more : (ns ms ks : List Name) → come_twice ns (ms ++ ks) ≡ (come_twice ns ms || come_twice (ns ++ ms) ks)
twice_more ns [] ks = ap (λ l. come_twice l ks) (sym (append-nil ns))
twice_more ns (m ∷ ms) ks =
    ap (λ c. is_among m ns || c)
    (twice_more (m ∷ ns) ms ks ∙ ap (λ c. come_twice (m ∷ ns) ms || c) (twice_same ((m ∷ ns) ++ ms) (ns ++ m ∷ ms) ks (λ n. moved m n ns ms)))
    ∙ sym (or_more (is_among m ns) (come_twice (m ∷ ns) ms) (come_twice (ns ++ m ∷ ms) ks))

-- ---- one name more

pub known : (m : Name) (t : Table) (b : Bool) (o : Option ℕ) → b ≡ is_some o → o ≡ first_place t m → b ≡ true
    → (ns : List Name) → AreNames ns t → come_twice ns (m ∷ []) ≡ true
known m t b o e f w ns a = ap (λ c. c || false) (sym (a m) ∙ ap (λ (q : Option ℕ). is_some q) (sym f) ∙ sym e ∙ w)

some_noted : (o : Option ℕ) (b : Bool) → is_some (option_or o (if b then Some 0 else None)) ≡ (is_some o || (b || false))
some_noted None true = refl
some_noted None false = refl
some_noted (Some i) b = refl

pub new : (m : Name) (t u : Table) (b : Bool) (o : Option ℕ) → b ≡ is_some o → o ≡ first_place t m → b ≡ false
    → ((n : Name) → first_place u n ≡ noted m 0 (first_place t) n) → (ns : List Name) → AreNames ns t → (come_twice ns (m ∷ []) ≡ false) × AreNames (ns ++ m ∷ []) u
new m t u b o e f w note ns a = (
  ap (λ c. c || false) (sym (a m) ∙ ap (λ (q : Option ℕ). is_some q) (sym f) ∙ sym e ∙ w),
  λ n. ap (λ (q : Option ℕ). is_some q) (note n) ∙ some_noted (first_place t n) (bytes_eq n m) ∙ ap (λ c. c || (bytes_eq n m || false)) (a n)
      ∙ sym (list_any-append (bytes_eq n) ns (m ∷ [])),
)

-- ---- a loop over names

-- no name yet
pub none_yet : (ns : List Name) (t : Table) → AreNames ns t → (come_twice ns [] ≡ false) × AreNames (ns ++ []) t
none_yet ns t a = (refl, subst (λ (l : List Name). AreNames l t) (sym (append-nil ns)) a)

taken : {A : Type 0} (f : A → Name) (xs : List A) (i : ℕ) (x : A) → i < length xs → x ≡ get_or xs i x → map f (take (i + 1) xs) ≡ map f (take i xs) ++ f x ∷ []
taken f xs i x h is =
    ap (λ ys. map f ys) (ap (λ j. take j xs) (add-one i) ∙ take-suc xs i x h ∙ ap (λ y. take i xs ++ y ∷ []) (sym is)) ∙ map-append f (take i xs) (x ∷ [])

split : {A : Type 0} (f : A → Name) (xs : List A) (i : ℕ) (x : A) → i < length xs → x ≡ get_or xs i x
    → map f xs ≡ map f (take i xs) ++ f x ∷ map f (drop (suc i) xs)
split f xs i x h is =
    ap (λ ys. map f ys) (sym (take-append-drop i xs)) ∙ map-append f (take i xs) (drop i xs)
    ∙ ap (λ ys. map f (take i xs) ++ map f ys) (drop-cons xs i x h ∙ ap (λ y. y ∷ drop (suc i) xs) (sym is))

-- one name more that is new
pub went_on : {A : Type 0} (f : A → Name) (xs : List A) (i : ℕ) (x : A) (y : Name) (before s t : Table) → i < length xs → x ≡ get_or xs i x → y ≡ f x
    → ((ns : List Name) → AreNames ns s → (come_twice ns (y ∷ []) ≡ false) × AreNames (ns ++ y ∷ []) t)
    → ((ns : List Name) → AreNames ns before → (come_twice ns (map f (take i xs)) ≡ false) × AreNames (ns ++ map f (take i xs)) s)
    → (ns : List Name) → AreNames ns before → (come_twice ns (map f (take (i + 1) xs)) ≡ false) × AreNames (ns ++ map f (take (i + 1) xs)) t
went_on f xs i x y before s t h is e step so ns a =
    let old = so ns a in
    let one = step (ns ++ map f (take i xs)) old.1 in
    let all : map f (take (i + 1) xs) ≡ map f (take i xs) ++ y ∷ [] = taken f xs i x h is ∙ ap (λ z. map f (take i xs) ++ z ∷ []) (sym e) in (
      ap (λ l. come_twice ns l) all ∙ twice_more ns (map f (take i xs)) (y ∷ []) ∙ ap (λ c. c || come_twice (ns ++ map f (take i xs)) (y ∷ [])) old.0 ∙ one.0,
      subst (λ (l : List Name). AreNames l t) (append_assoc ns (map f (take i xs)) (y ∷ []) ∙ ap (λ l. ns ++ l) (sym all)) one.1,
    )

-- one that isn't
pub stopped : {A : Type 0} (f : A → Name) (xs : List A) (i : ℕ) (x : A) (y : Name) (before s : Table) → i < length xs → x ≡ get_or xs i x → y ≡ f x
    → ((ns : List Name) → AreNames ns s → come_twice ns (y ∷ []) ≡ true)
    → ((ns : List Name) → AreNames ns before → (come_twice ns (map f (take i xs)) ≡ false) × AreNames (ns ++ map f (take i xs)) s)
    → (ns : List Name) → AreNames ns before → come_twice ns (map f xs) ≡ true
stopped f xs i x y before s h is e step so ns a =
    let old = so ns a in
    let ms = map f (take i xs) in
    let rest = map f (drop (suc i) xs) in
    let one : is_among y (ns ++ ms) ≡ true = sym (or_none (is_among y (ns ++ ms))) ∙ step (ns ++ ms) old.1 in
    ap (λ l. come_twice ns l) (split f xs i x h is ∙ ap (λ z. ms ++ z ∷ rest) (sym e)) ∙ twice_more ns ms (y ∷ rest)
    ∙ ap (λ c. come_twice ns ms || (c || come_twice (y ∷ (ns ++ ms)) rest)) one ∙ or_true (come_twice ns ms)

-- all are new
pub all_new : {A : Type 0} (f : A → Name) (xs : List A) (i : ℕ) (before s : Table) → length xs ≤ i
    → ((ns : List Name) → AreNames ns before → (come_twice ns (map f (take i xs)) ≡ false) × AreNames (ns ++ map f (take i xs)) s)
    → (ns : List Name) → AreNames ns before → (come_twice ns (map f xs) ≡ false) × AreNames (ns ++ map f xs) s
all_new f xs i before s h so ns a =
    subst (λ ys. (come_twice ns (map f ys) ≡ false) × AreNames (ns ++ map f ys) s) (take_all i xs h) (so ns a)

-- ---- from a table of no name

pub no_names : (t : Table) → first_place t ≡ nowhere → AreNames [] t
no_names t e n = ap (λ (s : List ℕ → Option ℕ). is_some (s n)) e

pub answered : (ms : List Name) (t : Table) (o : Option Table) (b : Bool) → first_place t ≡ nowhere → ((ns : List Name) → AreNames ns t → IsWith ns ms o)
    → is_some o ≡ not b → b ≡ come_twice [] ms
answered ms t None true e h q = sym (h [] (no_names t e))
answered ms t None false e h q = cc
answered ms t (Some u) true e h q = cc
answered ms t (Some u) false e h q = sym (h [] (no_names t e)).0

-- ---- items

mapped : (ns : List Name) → map (λ n. n) ns ≡ ns
mapped [] = refl
mapped (n ∷ ns) = ap (λ l. n ∷ l) (mapped ns)

-- a parameter stands twice
pub parameter_twice : (xs : List ModuleItem) (x : ModuleItem) (b : Bool) → b ≡ come_twice [] (parameter_names (parameters_of x)) → b ≡ true
    → defines_twice (below xs x) ≡ true
parameter_twice xs x b e w = ap (λ c. come_twice (flat_map names_of xs) (names_of x) || c) (sym e ∙ w) ∙ or_true (come_twice (flat_map names_of xs) (names_of x))

-- none does
pub names_alone : (x : ModuleItem) (ms : List Name) (above : Table) (o : Option Table) (b : Bool) → b ≡ come_twice [] (parameter_names (parameters_of x)) → b ≡ false
    → ms ≡ names_of x → ((ns : List Name) → AreNames ns above → IsWith ns (map (λ n. n) ms) o)
    → (xs : List ModuleItem) → AreNames (flat_map names_of xs) above → IsBelow xs x o
names_alone x ms above o b e w is so xs a =
    go o (subst (λ l. IsWith (flat_map names_of xs) l o) (mapped ms ∙ is) (so (flat_map names_of xs) a))
  where
    broken : defines_twice (below xs x) ≡ come_twice (flat_map names_of xs) (names_of x)
    broken = ap (λ c. come_twice (flat_map names_of xs) (names_of x) || c) (sym e ∙ w) ∙ or_none (come_twice (flat_map names_of xs) (names_of x))

    all : flat_map names_of (xs ++ x ∷ []) ≡ flat_map names_of xs ++ names_of x
    all = flat_map-append names_of xs (x ∷ []) ∙ ap (λ l. flat_map names_of xs ++ l) (append-nil (names_of x))

    go : (p : Option Table) → IsWith (flat_map names_of xs) (names_of x) p → IsBelow xs x p
    go None h = broken ∙ h
    go (Some t) h = (broken ∙ h.0, subst (λ l. AreNames l t) (sym all) h.1)
