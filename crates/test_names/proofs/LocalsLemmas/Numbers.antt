-- Names that are numbered as they come.
use Rattle.std.proofs.Common.{◌≡◌, ◌<◌, ◌≤◌, ◌+◌, ℕ, suc, not, Bool, true, false, ◌||◌, List, [], ◌∷◌, ◌++◌, length, take, add-one, Option, Some, None, get_or, refl, sym, ap, subst, ◌∙◌, cond, if◌then◌else◌, arith, Result, IfOk}
use Rattle.std.proofs.Math.Seq.{take-suc}
use Rattle.std.proofs.lemmas.List.{append-nil, append_assoc, flat_map_more, map-append, take_all, length-map, length-take}
use Rattle.std.proofs.lemmas.Result.{IfOk-weaker}
use Rattle.std.proofs.lemmas.Slice.Eq.{bytes_eq-Decides}
use Rattle.std.proofs.lemmas.List.Folds.{list_any-append}
use Rattle.std.specs.List.{list_any, position_from, flat_map}
use Rattle.std.specs.Option.{option_or, is_some}
use Rattle.std.specs.Str.{bytes_eq}
use Rattle.py_syntax.specs.BlockTrees.{Block, ClauseAt, view_item, view_block, block_of, Then}
use Rattle.py_syntax.specs.BlockTrees as tree
use Rattle.py_syntax.specs.StatementTrees.{Header}
use Rattle.py_syntax.specs.declared.tree.BlockItem.{BlockItem, Row_of-BlockItem, end_of-BlockItem, more_of-BlockItem}
use Rattle.py_syntax.specs.declared.tree.BlockItem.TheBlock.{items-the_row-BlockItem}
use Rattle.py_syntax.specs.declared.module.Parameter.{Parameter}
use Rattle.test_meaning.specs.Rules.Names.{Name, is_among, only_if, others_than}
use Rattle.test_meaning.specs.Rules.Uses.{assigned_at, assigned_in, named_by, parameter_names}
use Rattle.name_table.specs.Places.{first_place, noted}
use Rattle.test_names.specs.Locals.Own.{with_names, AreNumbered}
use Rattle.test_names.specs.declared.locals.numbered.Numbered.{Numbered}

-- ---- the names that others than those are

-- It matters alone which names they are.
pub others_same : (a b ms : List Name) → ((n : Name) → is_among n a ≡ is_among n b) → others_than a ms ≡ others_than b ms
others_same a b [] h = refl
others_same a b (m ∷ ms) h =
    ap (λ c. only_if (not c) m ++ others_than (m ∷ a) ms) (h m)
    ∙ ap (λ os. only_if (not (is_among m b)) m ++ os) (others_same (m ∷ a) (m ∷ b) ms (λ n. ap (λ c. bytes_eq n m || c) (h n)))

or_none : (a : Bool) → (a || false) ≡ a
or_none true = refl
or_none false = refl

or_true : (a : Bool) → (a || true) ≡ true
or_true true = refl
or_true false = refl

-- one name more is among them
with_one : (ns : List Name) (m n : Name) → is_among n (with_names ns (m ∷ [])) ≡ (bytes_eq n m || is_among n ns)
with_one ns m n =
    list_any-append (bytes_eq n) ns (only_if (not (is_among m ns)) m ++ []) ∙ go (is_among m ns) (bytes_eq n m) refl refl
  where
    go : (c d : Bool) → is_among m ns ≡ c → bytes_eq n m ≡ d → (is_among n ns || list_any (bytes_eq n) (only_if (not c) m ++ [])) ≡ (d || is_among n ns)
    go true true p q = ap (λ b. b || false) (ap (λ k. is_among k ns) ((bytes_eq-Decides n m).0 q) ∙ p)
    go true false p q = or_none (is_among n ns)
    go false true p q = ap (λ b. is_among n ns || (b || false)) q ∙ or_true (is_among n ns)
    go false false p q = ap (λ b. is_among n ns || (b || false)) q ∙ or_none (is_among n ns)

-- one name, and then others
with_first : (ns : List Name) (m : Name) (ms : List Name) → with_names ns (m ∷ ms) ≡ with_names (with_names ns (m ∷ [])) ms
with_first ns m ms =
    let one : List Name = only_if (not (is_among m ns)) m in
    ap (λ (o : List Name). ns ++ (o ++ others_than (m ∷ ns) ms)) (sym (append-nil one))
    ∙ sym (append_assoc ns (one ++ []) (others_than (m ∷ ns) ms))
    ∙ ap (λ (o : List Name). (ns ++ (one ++ [])) ++ o) (others_same (m ∷ ns) (ns ++ (one ++ [])) ms (λ n. sym (with_one ns m n)))

-- names, and then others
pub with_more : (ns ms ks : List Name) → with_names ns (ms ++ ks) ≡ with_names (with_names ns ms) ks
with_more ns [] ks = ap (λ l. with_names l ks) (sym (append-nil ns))
with_more ns (m ∷ ms) ks =
    with_first ns m (ms ++ ks) ∙ with_more (with_names ns (m ∷ [])) ms ks ∙ ap (λ l. with_names l ks) (sym (with_first ns m ms))

-- ---- places

one_behind : {A : Type 0} (p : A → Bool) (i : ℕ) (xs : List A) (y : A)
    → position_from p i (xs ++ y ∷ []) ≡ option_or (position_from p i xs) (cond (p y) (Some (i + length xs)) None)
one_behind p i [] y = ap (λ k. cond (p y) (Some k) None) (let e : i ≡ i + 0 = omega arith in e)
one_behind p i (x ∷ xs) y = go (p x) (one_behind p (i + 1) xs y)
  where
    go : (b : Bool) → position_from p (i + 1) (xs ++ y ∷ []) ≡ option_or (position_from p (i + 1) xs) (cond (p y) (Some (i + 1 + length xs)) None)
        → cond b (Some i) (position_from p (i + 1) (xs ++ y ∷ [])) ≡ option_or (cond b (Some i) (position_from p (i + 1) xs)) (cond (p y) (Some (i + suc (length xs))) None)
    go true h = refl
    go false h = h ∙ ap (λ k. option_or (position_from p (i + 1) xs) (cond (p y) (Some k) None)) (let e : i + 1 + length xs ≡ i + suc (length xs) = omega arith in e)

placed : {A : Type 0} (p : A → Bool) (i : ℕ) (xs : List A) → is_some (position_from p i xs) ≡ list_any p xs
placed p i [] = refl
placed p i (x ∷ xs) = go (p x) (placed p (i + 1) xs)
  where
    go : (b : Bool) → is_some (position_from p (i + 1) xs) ≡ list_any p xs → is_some (cond b (Some i) (position_from p (i + 1) xs)) ≡ (b || list_any p xs)
    go true h = refl
    go false h = h

-- a name that has a place keeps it
pub known : (ns : List Name) (m : Name) (s : Numbered) (b : Bool) (o : Option ℕ) → b ≡ is_some o → o ≡ first_place s.places m → b ≡ true
    → AreNumbered ns s → AreNumbered (with_names ns (m ∷ [])) s
known ns m s b o e f w a =
    let here : is_among m ns ≡ true = sym (placed (bytes_eq m) 0 ns) ∙ ap (λ (q : Option ℕ). is_some q) (sym (a.places m) ∙ sym f) ∙ sym e ∙ w in
    let same : with_names ns (m ∷ []) ≡ ns = ap (λ c. ns ++ (only_if (not c) m ++ [])) here ∙ append-nil ns in
    subst (λ (l : List Name). AreNumbered l s) (sym same) a

-- a name that has none gets the next
pub new : (ns : List Name) (m : Name) (s t : Numbered) (b : Bool) (o : Option ℕ) (k : ℕ) (x : Name) → b ≡ is_some o → o ≡ first_place s.places m → b ≡ false
    → k ≡ length s.names → x ≡ m → t.names ≡ s.names ++ x ∷ [] → ((n : Name) → first_place t.places n ≡ noted m k (first_place s.places) n)
    → AreNumbered ns s → AreNumbered (with_names ns (m ∷ [])) t
new ns m s t b o k x e f w count is more note a =
    let gone : is_among m ns ≡ false = sym (placed (bytes_eq m) 0 ns) ∙ ap (λ (q : Option ℕ). is_some q) (sym (a.places m) ∙ sym f) ∙ sym e ∙ w in
    let same : with_names ns (m ∷ []) ≡ ns ++ m ∷ [] = ap (λ c. ns ++ (only_if (not c) m ++ [])) gone in
    let next : k ≡ length ns = count ∙ ap (λ (ms : List Name). length ms) a.names in
    subst (λ (l : List Name). AreNumbered l t) (sym same)
    (record {
      names = more ∙ ap (λ (ms : List Name). ms ++ x ∷ []) a.names ∙ ap (λ (y : Name). ns ++ y ∷ []) is;
      places = λ n. note n ∙ ap (λ q. option_or q (if bytes_eq n m then Some k else None)) (a.places n)
          ∙ ap (λ k. option_or (position_from (bytes_eq n) 0 ns) (if bytes_eq n m then Some k else None)) (next ∙ (let z : length ns ≡ 0 + length ns = omega arith in z))
          ∙ sym (one_behind (bytes_eq n) 0 ns m);
    })

-- ---- loops

-- one element more
taken : {A : Type 0} (xs : List A) (i : ℕ) (x : A) → i < length xs → x ≡ get_or xs i x → take (i + 1) xs ≡ take i xs ++ x ∷ []
taken xs i x h is = ap (λ j. take j xs) (add-one i) ∙ take-suc xs i x h ∙ ap (λ y. take i xs ++ y ∷ []) (sym is)

-- one name more of those found
pub found_more : (found : List Name) (i : ℕ) (x y : Name) (before s t : Numbered) → i < length found → x ≡ get_or found i x → y ≡ x
    → ((ns : List Name) → AreNumbered ns s → AreNumbered (with_names ns (y ∷ [])) t)
    → ((ns : List Name) → AreNumbered ns before → AreNumbered (with_names ns (take i found)) s)
    → (ns : List Name) → AreNumbered ns before → AreNumbered (with_names ns (take (i + 1) found)) t
found_more found i x y before s t h is e step so ns a =
    let more : with_names ns (take (i + 1) found) ≡ with_names (with_names ns (take i found)) (y ∷ []) =
    ap (λ ms. with_names ns ms) (taken found i x h is ∙ ap (λ z. take i found ++ z ∷ []) (sym e)) ∙ with_more ns (take i found) (y ∷ []) in
    subst (λ (l : List Name). AreNumbered l t) (sym more) (step (with_names ns (take i found)) (so ns a))

-- behind the last name
pub all_found : (found : List Name) (i : ℕ) (before s : Numbered) → length found ≤ i
    → ((ns : List Name) → AreNumbered ns before → AreNumbered (with_names ns (take i found)) s)
    → (ns : List Name) → AreNumbered ns before → AreNumbered (with_names ns found) s
all_found found i before s h so ns a = subst (λ (ms : List Name). AreNumbered (with_names ns ms) s) (take_all i found h) (so ns a)

-- what a block assigns, item by item
pub by_item : (xs : List BlockItem) → assigned_in (block_of xs) ≡ flat_map (λ x. assigned_at (view_item x)) xs
by_item [] = refl
by_item (x ∷ xs) = ap (λ ns. assigned_at (view_item x) ++ ns) (by_item xs)

-- one item more of a block
pub item_more : (xs : List BlockItem) (i : ℕ) (x : BlockItem) (before s t : Numbered) → i < length xs → x ≡ get_or xs i x
    → ((ns : List Name) → AreNumbered ns s → AreNumbered (with_names ns (assigned_at (view_item x))) t)
    → ((ns : List Name) → AreNumbered ns before → AreNumbered (with_names ns (flat_map (λ y. assigned_at (view_item y)) (take i xs))) s)
    → (ns : List Name) → AreNumbered ns before → AreNumbered (with_names ns (flat_map (λ y. assigned_at (view_item y)) (take (i + 1) xs))) t
item_more xs i x before s t h is step so ns a =
    let uses : BlockItem → List Name = λ y. assigned_at (view_item y) in
    let more : with_names ns (flat_map uses (take (i + 1) xs)) ≡ with_names (with_names ns (flat_map uses (take i xs))) (uses x) =
    ap (λ ys. with_names ns (flat_map uses ys)) (taken xs i x h is) ∙ ap (λ ms. with_names ns ms) (sym (flat_map_more uses [] (take i xs) x))
    ∙ with_more ns (flat_map uses (take i xs)) (uses x) in
    subst (λ (l : List Name). AreNumbered l t) (sym more) (step (with_names ns (flat_map uses (take i xs))) (so ns a))

pub row_block : (n : _) (k : Row_of-BlockItem n) → view_block k ≡ block_of (items-the_row-BlockItem n k)
row_block n end_of-BlockItem = refl
row_block n (more_of-BlockItem x rest) = ap (λ b. Then (view_item x) b) (row_block _ rest)

-- behind the last item
pub all_items : (xs : List BlockItem) (i : ℕ) (before s : Numbered) → length xs ≤ i
    → ((ns : List Name) → AreNumbered ns before → AreNumbered (with_names ns (flat_map (λ y. assigned_at (view_item y)) (take i xs))) s)
    → (ns : List Name) → AreNumbered ns before → AreNumbered (with_names ns (assigned_in (block_of xs))) s
all_items xs i before s h so ns a =
    subst (λ (ms : List Name). AreNumbered (with_names ns ms) s)
    (ap (λ ys. flat_map (λ y. assigned_at (view_item y)) ys) (take_all i xs h) ∙ sym (by_item xs)) (so ns a)

-- what a header assigns, and then what its block does
pub clause_done : {E : Type 0} (r : Result Numbered E) (before mid : Numbered) (hs : List Name) (x : tree.BlockItem) (l : ℕ) (h : Header) (row b : Block)
    → x ≡ ClauseAt l h row → hs ≡ named_by h → row ≡ b
    → ((ns : List Name) → AreNumbered ns before → AreNumbered (with_names ns hs) mid)
    → IfOk r (λ after. (ns : List Name) → AreNumbered ns mid → AreNumbered (with_names ns (assigned_in b)) after)
    → IfOk r (λ after. (ns : List Name) → AreNumbered ns before → AreNumbered (with_names ns (assigned_at x)) after)
clause_done r before mid hs x l h row b e p q first rest =
    IfOk-weaker r (λ after. (ns : List Name) → AreNumbered ns mid → AreNumbered (with_names ns (assigned_in b)) after)
    (λ after. (ns : List Name) → AreNumbered ns before → AreNumbered (with_names ns (assigned_at x)) after)
    (λ after step. λ ns a.
    let is : with_names (with_names ns hs) (assigned_in b) ≡ with_names ns (assigned_at x) =
    sym (with_more ns hs (assigned_in b)) ∙ ap (λ ms. with_names ns (ms ++ assigned_in b)) p ∙ ap (λ c. with_names ns (named_by h ++ assigned_in c)) (sym q)
    ∙ ap (λ y. with_names ns (assigned_at y)) (sym e) in
    subst (λ (k : List Name). AreNumbered k after) is (step (with_names ns hs) (first ns a)))
    rest

-- one parameter more
pub parameter_more : (ps : List Parameter) (i : ℕ) (p : Parameter) (m : Name) (s t : List (Name × ℕ)) → i < length ps → p ≡ get_or ps i p → m ≡ p.name
    → ((n : Name) → first_place t n ≡ noted m i (first_place s) n)
    → ((n : Name) → first_place s n ≡ position_from (bytes_eq n) 0 (parameter_names (take i ps)))
    → (n : Name) → first_place t n ≡ position_from (bytes_eq n) 0 (parameter_names (take (i + 1) ps))
parameter_more ps i p m s t h is e note before n =
    let old = parameter_names (take i ps) in
    let count : i ≡ 0 + length old = omega (arith, h, length-map (take i ps) (λ (x : Parameter). x.name), length-take i ps) in
    note n ∙ ap (λ q. option_or q (if bytes_eq n m then Some i else None)) (before n)
    ∙ ap (λ z. option_or (position_from (bytes_eq n) 0 old) (if bytes_eq n z then Some i else None)) e
    ∙ ap (λ k. option_or (position_from (bytes_eq n) 0 old) (if bytes_eq n p.name then Some k else None)) count
    ∙ sym (one_behind (bytes_eq n) 0 old p.name)
    ∙ ap (λ l. position_from (bytes_eq n) 0 l)
    (sym (ap (λ ys. parameter_names ys) (taken ps i p h is) ∙ map-append (λ (x : Parameter). x.name) (take i ps) (p ∷ [])))

-- their names
pub parameter_named : (ps : List Parameter) (i : ℕ) (p : Parameter) (m : Name) (ns : List Name) → i < length ps → p ≡ get_or ps i p → m ≡ p.name
    → ns ≡ parameter_names (take i ps) → ns ++ m ∷ [] ≡ parameter_names (take (i + 1) ps)
parameter_named ps i p m ns h is e before =
    ap (λ (ms : List Name). ms ++ m ∷ []) before ∙ ap (λ (n : Name). parameter_names (take i ps) ++ n ∷ []) e
    ∙ sym (ap (λ ys. parameter_names ys) (taken ps i p h is) ∙ map-append (λ (x : Parameter). x.name) (take i ps) (p ∷ []))
