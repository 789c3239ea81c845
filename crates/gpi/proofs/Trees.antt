-- The tables of parents and of depths of a design's nodes.
use Rattle.std.proofs.Common.{◌≡◌, ℕ, zero, suc, ◌+◌, ◌-◌, ◌<◌, ◌≤◌, ◌↔◌, ◌==◌, ◌||◌, nat_lt, nat_le, Bool, true, false, IsTrue, List, [], ◌∷◌, length, drop, min, slice_get, Some, None, Option, refl, ap, sym, subst, ◌∙◌, arith, take, replicate, is_some, not, MatchOption, ◌⊎◌, inl, inr, ⊎_elim, get_or, slice_set, if◌then◌else◌}
use Rattle.std.proofs.lemmas.Option.{slice_get_within, slice_get-get_or}
use Rattle.std.proofs.lemmas.Bool.Decides.{nat_tests}
use Rattle.std.proofs.lemmas.List.{drop_all, length-replicate}
use Rattle.gpi.specs.declared.design.Node.{Node}
use Rattle.gpi.specs.declared.design.Spot.{Spot}
use Rattle.gpi.specs.Soundness.{IsTree, IsPlaced, is_child, times_among, times_child, parent_from, at_parent, climbs}
use Rattle.gpi.specs.Tables.{AreEmpty, held, claimed, AreParents, AreInside, parent_by, comes, IsDepth, IsDepthFound, AreDepths}
use Rattle.gpi.proofs.Sound.{drop_back}

-- ---- more than once stays so

-- ---- tests of numbers

none_less : (t : ℕ) → nat_lt 0 (suc t) ≡ true
none_less t = grind (arith, nat_tests)

not_zero : (v : ℕ) → (suc v == 0) ≡ false
not_zero v = grind (arith, nat_tests)

not_le_zero : (d : ℕ) → nat_le (suc d) 0 ≡ false
not_le_zero d = grind (arith, nat_tests)

zero_le : (d : ℕ) → nat_le 0 d ≡ true
zero_le d = grind (arith, nat_tests)

le_suc : (d n : ℕ) → nat_le (suc d) (suc n) ≡ nat_le d n
le_suc d n = grind (arith, nat_tests)

few_if : (b : Bool) (t : ℕ) → t ≤ 2 → (if b then min 2 (t + 1) else t) ≤ 2
few_if true t h = omega arith
few_if false t h = h

among_few : (v : ℕ) (cs : List (List ℕ × Spot)) → times_among v cs ≤ 2
among_few v [] = omega arith
among_few v (c ∷ cs) = few_if (is_child v c.1) (times_among v cs) (among_few v cs)

more_if : (b : Bool) (s t : ℕ) → t ≤ 2 → s ≤ t → s ≤ (if b then min 2 (t + 1) else t)
more_if true s t h l = omega (arith, h, l)
more_if false s t h l = l

among_drop : (v : ℕ) (cs : List (List ℕ × Spot)) (n : ℕ) → times_among v (drop n cs) ≤ times_among v cs
among_drop v cs zero = omega arith
among_drop v [] (suc n) = omega arith
among_drop v (c ∷ cs) (suc n) = more_if (is_child v c.1) (times_among v (drop n cs)) (times_among v cs) (among_few v cs) (among_drop v cs n)

child_few : (v : ℕ) (ns : List Node) → times_child v ns ≤ 2
child_few v [] = omega arith
child_few v (x ∷ xs) = omega arith

child_drop : (v : ℕ) (ns : List Node) (n : ℕ) → times_child v (drop n ns) ≤ times_child v ns
child_drop v ns zero = omega arith
child_drop v [] (suc n) = omega arith
child_drop v (x ∷ xs) (suc n) = omega (arith, child_few v xs, child_drop v xs n)

-- ---- one node claims its children

-- what the table holds when the children from n on are claimed
pub record Claims (n node : ℕ) (cs : List (List ℕ × Spot)) (before after : List (Option ℕ)) : Type 0 where
  pub inside : n ≤ length cs
  pub count : length after ≡ length before
  pub each : (v : ℕ) → v < length before → (slice_get after v ≡ claimed v node (drop n cs) (slice_get before v)) × (times_among v (drop n cs) + held (slice_get before v) ≤ 1)

one_more : (b : Bool) (t node : ℕ) (old mid new : Option (Option ℕ)) → mid ≡ (if nat_lt 0 t then Some (Some node) else old) → t + held old ≤ 1 → (b ≡ true → mid ≡ Some None)
    → new ≡ (if b then Some (Some node) else mid)
    → (new ≡ (if nat_lt 0 (if b then min 2 (t + 1) else t) then Some (Some node) else old)) × ((if b then min 2 (t + 1) else t) + held old ≤ 1)
one_more false t node old mid new e l f g = (g ∙ e, l)
one_more true zero node old mid new e l f g =
    let k : old ≡ Some None = sym e ∙ f refl in
    (g, subst (λ (o : Option (Option ℕ)). 1 + held o ≤ 1) (sym k) (omega arith))
one_more true (suc t) node old mid new e l f g = let k = f refl in let m : mid ≡ Some (Some node) = rw (none_less t) at e in absurd (cc)

one_free : (b : Bool) (t node : ℕ) (old mid : Option (Option ℕ)) → (old ≡ None → ⊥) → mid ≡ (if nat_lt 0 t then Some (Some node) else old) → (if b then min 2 (t + 1) else t) + held old ≤ 1 → b ≡ true → mid ≡ Some None
one_free false t node old mid x e l h = absurd (cc)
one_free true t node None mid x e l h = absurd (x refl)
one_free true zero node (Some None) mid x e l h = e
one_free true (suc t) node (Some None) mid x e l h = absurd (omega (arith, l))
one_free true t node (Some (Some p)) mid x e l h = absurd (omega (arith, l))

there : {A : Type 0} (xs : List A) (v : ℕ) → v < length xs → slice_get xs v ≡ None → ⊥
there [] v l e = omega (arith, l)
there (x ∷ xs) zero l e = absurd (cc)
there (x ∷ xs) (suc v) l e = there xs v (omega (arith, l)) e

held_few : (place : Option (Option ℕ)) → held place ≤ 1
held_few None = omega arith
held_few (Some None) = omega arith
held_few (Some (Some p)) = omega arith

pub claims_start : (node : ℕ) (cs : List (List ℕ × Spot)) (before : List (Option ℕ)) → Claims (length cs) node cs before before
claims_start node cs before = record {
  inside = omega arith;
  count = refl;
  each = λ v l. rw (drop_all (length cs) cs (omega arith)) (refl, omega (arith, held_few (slice_get before v)));
}

pub claims_more : (n node : ℕ) (cs : List (List ℕ × Spot)) (before mid after : List (Option ℕ)) (c : List ℕ × Spot) → 0 < n → slice_get cs (n - 1) ≡ Some c
    → Claims n node cs before mid → length after ≡ length mid
    → ((v : ℕ) → v < length mid → is_child v c.1 ≡ true → slice_get mid v ≡ Some None)
    → ((v : ℕ) → v < length mid → slice_get after v ≡ (if is_child v c.1 then Some (Some node) else slice_get mid v))
    → Claims (n - 1) node cs before after
claims_more n node cs before mid after c h g k e f i = record {
  inside = omega (arith, k.inside);
  count = e ∙ k.count;
  each = λ v l. let m : v < length mid = omega (arith, l, k.count) in let a = k.each v l in
      rw (drop_back cs n c h g) (one_more (is_child v c.1) (times_among v (drop n cs)) node (slice_get before v) (slice_get mid v) (slice_get after v) a.0 a.1 (f v m) (i v m));
}

pub claims_no : (n node : ℕ) (cs : List (List ℕ × Spot)) (before mid : List (Option ℕ)) (c : List ℕ × Spot) (r : Bool) → 0 < n → slice_get cs (n - 1) ≡ Some c
    → Claims n node cs before mid → r ≡ false
    → IsTrue r ↔ ((v : ℕ) → v < length mid → is_child v c.1 ≡ true → slice_get mid v ≡ Some None)
    → IsTrue false ↔ ((v : ℕ) → v < length before → times_among v cs + held (slice_get before v) ≤ 1)
claims_no n node cs before mid c r h g k z f = (
  λ a. absurd (cc),
  λ all.
      let t : IsTrue r = f.1 (λ v l b. let m : v < length before = omega (arith, l, k.count) in
      let p : times_among v (drop (n - 1) cs) + held (slice_get before v) ≤ 1 = omega (arith, among_drop v cs (n - 1), all v m) in
      let q : times_among v (c ∷ drop n cs) + held (slice_get before v) ≤ 1 = subst (λ (ys : List (List ℕ × Spot)). times_among v ys + held (slice_get before v) ≤ 1) (drop_back cs n c h g) p in
      one_free (is_child v c.1) (times_among v (drop n cs)) node (slice_get before v) (slice_get mid v) (there before v m) (k.each v m).0 q b) in
      absurd (cc),
)

-- ---- all nodes do

-- what the table holds when the nodes from n on have claimed their children
pub record Notes (n : ℕ) (ns : List Node) (table : List (Option ℕ)) : Type 0 where
  pub inside : n ≤ length ns
  pub count : length table ≡ length ns
  pub each : AreParents n (drop n ns) table

note_one : (t n tc : ℕ) (o : Option ℕ) (mid after : Option (Option ℕ)) → mid ≡ Some o → tc ≡ held mid → t + held mid ≤ 1 → after ≡ (if nat_lt 0 t then Some (Some n) else mid)
    → (after ≡ Some (if nat_lt 0 t then Some n else o)) × (min 2 (t + tc) ≡ held after)
note_one zero n tc o mid after e f l g = (g ∙ e, let k : held after ≡ held mid = ap held g in omega (arith, k, f, l))
note_one (suc t) n tc o mid after e f l g =
    let h : after ≡ Some (Some n) = rw (none_less t) at g in
    let k : held after ≡ 1 = ap held h in
    (rw (none_less t) h, omega (arith, k, f, l))

pub notes_start : (ns : List Node) (table : List (Option ℕ)) → AreEmpty (length ns) table → Notes (length ns) ns table
notes_start ns table h = record {
  inside = omega arith;
  count = h.0;
  each = λ v l. let e = h.1 v (omega (arith, l, h.0)) in rw (drop_all (length ns) ns (omega arith)) (e, sym (ap held e));
}

pub notes_more : (n : ℕ) (ns : List Node) (mid after : List (Option ℕ)) (x : Node) → 0 < n → slice_get ns (n - 1) ≡ Some x
    → Notes n ns mid → length after ≡ length mid
    → ((v : ℕ) → v < length mid → times_among v x.children + held (slice_get mid v) ≤ 1)
    → ((v : ℕ) → v < length mid → slice_get after v ≡ claimed v (n - 1) x.children (slice_get mid v))
    → Notes (n - 1) ns after
notes_more n ns mid after x h g k e f i = record {
  inside = omega (arith, k.inside);
  count = e ∙ k.count;
  each = λ v l. let m : v < length mid = omega (arith, l, e) in let a = k.each v m in
      let s : suc (n - 1) ≡ n = omega (arith, h) in
      rw (drop_back ns n x h g, s) (note_one (times_among v x.children) (n - 1) (times_child v (drop n ns)) (parent_from v n (drop n ns)) (slice_get mid v) (slice_get after v) a.0 a.1 (f v m) (i v m));
}

pub notes_no : (n : ℕ) (ns : List Node) (mid : List (Option ℕ)) (x : Node) (r : Bool) → 0 < n → slice_get ns (n - 1) ≡ Some x
    → Notes n ns mid → r ≡ false
    → IsTrue r ↔ ((v : ℕ) → v < length mid → times_among v x.children + held (slice_get mid v) ≤ 1)
    → IsTrue false ↔ ((v : ℕ) → v < length ns → times_child v ns ≤ 1)
notes_no n ns mid x r h g k z f = (
  λ a. absurd (cc),
  λ all.
      let t : IsTrue r = f.1 (λ v l. let m : v < length ns = omega (arith, l, k.count) in
      let p : times_child v (drop (n - 1) ns) ≤ 1 = omega (arith, child_drop v ns (n - 1), all v m) in
      let q : min 2 (times_among v x.children + times_child v (drop n ns)) ≤ 1 = subst (λ (ys : List Node). times_child v ys ≤ 1) (drop_back ns n x h g) p in
      omega (arith, q, (k.each v l).1)) in
      absurd (cc),
)

pub notes_all : (ns : List Node) (table : List (Option ℕ)) → Notes 0 ns table → IsTrue true ↔ ((v : ℕ) → v < length ns → times_child v ns ≤ 1)
notes_all ns table k = (λ a v l. let m : v < length table = omega (arith, l, k.count) in omega (arith, (k.each v m).1, held_few (slice_get table v)), λ a. refl)

-- ---- from a node to its parent

parent_if : (b : Bool) (n p k : ℕ) (o : Option ℕ) → (o ≡ Some p → p < suc n + k) → (if b then Some n else o) ≡ Some p → p < n + suc k
parent_if true n p k o f e = let m : n ≡ p = cc in omega (arith, m)
parent_if false n p k o f e = omega (arith, f e)

parent_few : (v n : ℕ) (ns : List Node) (p : ℕ) → parent_from v n ns ≡ Some p → p < n + length ns
parent_few v n [] p e = absurd (cc)
parent_few v n (x ∷ xs) p e = parent_if (nat_lt 0 (times_among v x.children)) n p (length xs) (parent_from v (suc n) xs) (parent_few v (suc n) xs p) e

pub parents_inside : (ns : List Node) (table : List (Option ℕ)) → length table ≡ length ns → AreParents 0 ns table → AreInside table
parents_inside ns table c k v p e =
    let l : v < length table = slice_get_within table v (Some p) e in
    let f : parent_from v 0 ns ≡ Some p = let g = (k v l).0 in cc in
    omega (arith, c, parent_few v 0 ns p f)

at_same : (o : Option ℕ) (f g : ℕ → Bool) → ((p : ℕ) → o ≡ Some p → f p ≡ g p) → at_parent o f ≡ at_parent o g
at_same None f g h = refl
at_same (Some p) f g h = h p refl

comes_climbs : (steps : ℕ) (ns : List Node) (table : List (Option ℕ)) (v : ℕ) → length table ≡ length ns → AreParents 0 ns table → v < length ns → comes steps table v ≡ climbs steps ns v
comes_climbs zero ns table v c k l = refl
comes_climbs (suc steps) ns table v c k l =
    let m : v < length table = omega (arith, l, c) in
    let e : parent_by (slice_get table v) ≡ parent_from v 0 ns = ap parent_by (k v m).0 in
    ap (λ (b : Bool). (v == 0) || b) (ap (λ (o : Option ℕ). at_parent o (comes steps table)) e
    ∙ at_same (parent_from v 0 ns) (comes steps table) (climbs steps ns) (λ p f. comes_climbs steps ns table p c k (omega (arith, parent_few v 0 ns p f))))

-- ---- the tree

comes_held : (n : ℕ) (table : List (Option ℕ)) (v : ℕ) (place : Option (Option ℕ)) → slice_get table v ≡ place → 0 < v → IsTrue (comes n table v) → held place ≡ 1
comes_held n table zero place e h k = absurd (omega (arith, h))
comes_held zero table (suc v) place e h k = let x : IsTrue false = rw (not_zero v) at k in absurd (cc)
comes_held (suc n) table (suc v) None e h k = let x : IsTrue false = rw (not_zero v, e) at k in absurd (cc)
comes_held (suc n) table (suc v) (Some None) e h k = let x : IsTrue false = rw (not_zero v, e) at k in absurd (cc)
comes_held (suc n) table (suc v) (Some (Some p)) e h k = refl

placed : (ns : List Node) (table : List (Option ℕ)) (v : ℕ) → length table ≡ length ns → AreParents 0 ns table → slice_get table 0 ≡ Some None
    → v < length ns → IsTrue (comes (length table) table v) → IsPlaced ns v
placed ns table v c k r l h =
    let m : v < length table = omega (arith, l, c) in
    let e = comes_climbs (length table) ns table v c k l in
    (times v m h, subst (λ (b : Bool). IsTrue b) (e ∙ ap (λ (n : ℕ). climbs n ns v) c) h)
  where
    times : (v : ℕ) → v < length table → IsTrue (comes (length table) table v) → times_child v ns ≡ (if v == 0 then 0 else 1)
    times zero m h = (k zero m).1 ∙ ap held r
    times (suc v) m h = rw (not_zero v) ((k (suc v) m).1 ∙ comes_held (length table) table (suc v) (slice_get table (suc v)) refl (omega arith) h)

pub tree_yes : (ns : List Node) (table : List (Option ℕ)) → 0 < length ns → length table ≡ length ns → AreParents 0 ns table → slice_get table 0 ≡ Some None
    → ((v : ℕ) → v < length table → IsTrue (comes (length table) table v)) → IsTree ns
tree_yes ns table h c k r f = record { root = h; each = λ v l. placed ns table v c k r l (f v (omega (arith, l, c))) }

pub tree_rooted : (ns : List Node) (table : List (Option ℕ)) → length table ≡ length ns → AreParents 0 ns table → IsTree ns
    → (v : ℕ) → v < length table → IsTrue (comes (length table) table v)
tree_rooted ns table c k t v l =
    let m : v < length ns = omega (arith, l, c) in
    let e = comes_climbs (length table) ns table v c k m in
    subst (λ (b : Bool). IsTrue b) (sym (e ∙ ap (λ (n : ℕ). climbs n ns v) c)) (t.each v m).1

pub tree_once : (ns : List Node) → IsTree ns → (v : ℕ) → v < length ns → times_child v ns ≤ 1
tree_once ns t v l = once v (t.each v l).0
  where
    once : (v : ℕ) → times_child v ns ≡ (if v == 0 then 0 else 1) → times_child v ns ≤ 1
    once zero e = omega (arith, e)
    once (suc v) e = let k : times_child (suc v) ns ≡ 1 = rw (not_zero v) at e in omega (arith, k)

root_none : (place : Option (Option ℕ)) (o : Option ℕ) → place ≡ Some o → held place ≡ 0 → place ≡ Some None
root_none place None e h = e
root_none place (Some p) e h = let k : held place ≡ 1 = ap held e in absurd (omega (arith, h, k))

pub tree_root : (ns : List Node) (table : List (Option ℕ)) → length table ≡ length ns → AreParents 0 ns table → IsTree ns → slice_get table 0 ≡ Some None
tree_root ns table c k t =
    let l : 0 < length table = omega (arith, c, t.root) in
    let a = k 0 l in
    root_none (slice_get table 0) (parent_from 0 0 ns) a.0 (sym a.1 ∙ (t.each 0 t.root).0)

pub tree_by : (ns : List Node) (table : List (Option ℕ)) (r : Bool) → 0 < length ns → length table ≡ length ns → AreParents 0 ns table → slice_get table 0 ≡ Some None
    → IsTrue r ↔ ((v : ℕ) → v < length table → IsTrue (comes (length table) table v)) → IsTrue r ↔ IsTree ns
tree_by ns table r h c k e f = (λ t. tree_yes ns table h c k e (f.0 t), λ t. f.1 (tree_rooted ns table c k t))

-- ---- depths

-- one step up
pub up : (table : List (Option ℕ)) (v p steps : ℕ) → 0 < v → slice_get table v ≡ Some (Some p) → comes (suc steps) table v ≡ comes steps table p
up table zero p steps h e = absurd (omega (arith, h))
up table (suc v) p steps h e = rw (not_zero v, e) refl

pub stuck : (table : List (Option ℕ)) (v steps : ℕ) → 0 < v → slice_get table v ≡ Some None → comes steps table v ≡ false
stuck table zero steps h e = absurd (omega (arith, h))
stuck table (suc v) zero h e = not_zero v
stuck table (suc v) (suc steps) h e = rw (not_zero v, e) refl

pub depth_root : (table : List (Option ℕ)) → IsDepth table 0 0
depth_root table zero = refl
depth_root table (suc steps) = sym (zero_le (suc steps))

-- only node 0 has depth 0
pub depth_zero : (table : List (Option ℕ)) (v d : ℕ) → IsDepth table v d → 0 < d → 0 < v
depth_zero table zero zero k h = absurd (omega (arith, h))
depth_zero table zero (suc d) k h = let e : true ≡ false = k 0 ∙ not_le_zero d in absurd (cc)
depth_zero table (suc v) d k h = omega arith

pub depth_up : (table : List (Option ℕ)) (v p d e : ℕ) → 0 < d → e ≡ d - 1 → IsDepth table v d → slice_get table v ≡ Some (Some p) → IsDepth table p e
depth_up table v p zero e h f k g steps = absurd (omega (arith, h))
depth_up table v p (suc d) e h f k g steps =
    let j : e ≡ d = omega (arith, f) in
    rw j (sym (up table v p steps (depth_zero table v (suc d) k h) g) ∙ (k (suc steps) ∙ le_suc d steps))

pub depth_down : (table : List (Option ℕ)) (v p d : ℕ) → 0 < v → IsDepth table p d → slice_get table v ≡ Some (Some p) → IsDepth table v (suc d)
depth_down table (suc v) p d h k e zero = not_zero v ∙ sym (not_le_zero d)
depth_down table (suc v) p d h k e (suc steps) = up table (suc v) p steps h e ∙ (k steps ∙ sym (le_suc d steps))
depth_down table zero p d h k e steps = absurd (omega (arith, h))

-- ---- what a write leaves

set_cases : {A : Type 0} (xs : List A) (i j : ℕ) (a b : A) → slice_get (slice_set xs i a) j ≡ Some b → ((j ≡ i) × (b ≡ a)) ⊎ (slice_get xs j ≡ Some b)
set_cases [] i j a b h = inr h
set_cases (x ∷ xs) zero zero a b h = inl (refl, cc)
set_cases (x ∷ xs) zero (suc j) a b h = inr h
set_cases (x ∷ xs) (suc i) zero a b h = inr h
set_cases (x ∷ xs) (suc i) (suc j) a b h = ⊎_elim (λ k. inl (ap suc k.0, k.1)) (λ k. inr k) (set_cases xs i j a b h)

set_front : {A : Type 0} (xs : List A) (i : ℕ) (a : A) → 0 < i → slice_get (slice_set xs i a) 0 ≡ slice_get xs 0
set_front [] i a h = refl
set_front (x ∷ xs) zero a h = absurd (omega (arith, h))
set_front (x ∷ xs) (suc i) a h = refl

set_length : {A : Type 0} (xs : List A) (i : ℕ) (a : A) → length (slice_set xs i a) ≡ length xs
set_length [] i a = refl
set_length (x ∷ xs) zero a = refl
set_length (x ∷ xs) (suc i) a = ap suc (set_length xs i a)

pub read : {A : Type 0} {o : A} (xs : List A) (i : ℕ) (d : A) → i < length xs → get_or xs i d ≡ o → slice_get xs i ≡ Some o
read xs i d l e = slice_get-get_or xs i d l ∙ ap Some e

-- ---- the depths that are known

pub known_more : (table depths : List (Option ℕ)) (v d : ℕ) → 0 < d → d ≤ length table → IsDepth table v d → AreDepths table depths → AreDepths table (slice_set depths v (Some d))
known_more table depths v d h l k a = record {
  count = set_length depths v (Some d) ∙ a.count;
  root = set_front depths v (Some d) (depth_zero table v d k h) ∙ a.root;
  each = λ w e g. ⊎_elim
      (λ p. let f : e ≡ d = let q : Some e ≡ Some d = p.1 in cc in
      (subst (λ (u : ℕ). IsDepth table u e) (sym p.0) (subst (λ (n : ℕ). IsDepth table v n) (sym f) k), omega (arith, f, l)))
      (λ p. a.each w e p)
      (set_cases depths v w (Some d) (Some e) g);
}

pub known_first : (table depths : List (Option ℕ)) → 0 < length table → AreEmpty (length table) depths → AreDepths table (slice_set depths 0 (Some 0))
known_first table [] h a = absurd (omega (arith, h, a.0))
known_first table (x ∷ xs) h a = record {
  count = a.0;
  root = refl;
  each = λ w e g. ⊎_elim
      (λ p. let f : e ≡ 0 = let q : Some e ≡ Some 0 = p.1 in cc in
      (subst (λ (u : ℕ). IsDepth table u e) (sym p.0) (subst (λ (n : ℕ). IsDepth table 0 n) (sym f) (depth_root table)), omega (arith, f)))
      (λ p. let l : w < length (x ∷ xs) = slice_get_within (x ∷ xs) w (Some e) p in
      let q : slice_get (x ∷ xs) w ≡ Some None = a.1 w (omega (arith, l, a.0)) in absurd (cc))
      (set_cases (x ∷ xs) 0 w (Some 0) (Some e) g);
}

-- ---- a climb of so many steps from a node

pub record Climbs (table : List (Option ℕ)) (node steps at : ℕ) : Type 0 where
  pub inside : at < length table
  pub few : steps ≤ length table
  pub left : comes (length table) table node ≡ comes (length table - steps) table at
  pub depth : (d : ℕ) → IsDepth table at d → IsDepth table node (d + steps)

pub climb_start : (table : List (Option ℕ)) (node : ℕ) → node < length table → Climbs table node 0 node
climb_start table node l = record {
  inside = l;
  few = omega arith;
  left = let e : length table - 0 ≡ length table = omega arith in ap (λ (n : ℕ). comes n table node) (sym e);
  depth = λ d k. let e : d + 0 ≡ d = omega arith in subst (λ (n : ℕ). IsDepth table node n) (sym e) k;
}

below : (table depths : List (Option ℕ)) (at : ℕ) → AreDepths table depths → slice_get depths at ≡ Some None → 0 < at
below table depths zero a e = let r = a.root in absurd (cc)
below table depths (suc at) a e = omega arith

pub climb_more : (table depths : List (Option ℕ)) (node steps at above : ℕ) → Climbs table node steps at → AreDepths table depths → AreInside table
    → steps < length table → slice_get depths at ≡ Some None → slice_get table at ≡ Some (Some above) → Climbs table node (steps + 1) above
climb_more table depths node steps at above k a i l e g =
    let h = below table depths at a e in
    let s : length table - steps ≡ suc (length table - (steps + 1)) = omega (arith, l) in
    record {
      inside = i at above g;
      few = omega (arith, l);
      left = k.left ∙ (ap (λ (n : ℕ). comes n table at) s ∙ up table at above (length table - (steps + 1)) h g);
      depth = λ d f. let t : suc d + steps ≡ d + (steps + 1) = omega arith in
          subst (λ (n : ℕ). IsDepth table node n) t (k.depth (suc d) (depth_down table at above d h f g));
    }

pub climb_stuck : (table depths : List (Option ℕ)) (node steps at : ℕ) → Climbs table node steps at → AreDepths table depths
    → slice_get depths at ≡ Some None → slice_get table at ≡ Some None → comes (length table) table node ≡ false
climb_stuck table depths node steps at k a e g = k.left ∙ stuck table at (length table - steps) (below table depths at a e) g

pub climb_found : (table depths : List (Option ℕ)) (node steps at d n : ℕ) → Climbs table node steps at → AreDepths table depths
    → slice_get depths at ≡ Some (Some d) → n ≡ d + steps → n ≤ length table → IsDepthFound (Some n) table node
climb_found table depths node steps at d n k a e f l =
    (subst (λ (m : ℕ). IsDepth table node m) (sym f) (k.depth d (a.each at d e).0), l)

pub climb_far : (table depths : List (Option ℕ)) (node steps at d : ℕ) → Climbs table node steps at → AreDepths table depths
    → slice_get depths at ≡ Some (Some d) → length table < d + steps → comes (length table) table node ≡ false
climb_far table depths node steps at d k a e l =
    k.left ∙ ((a.each at d e).0 (length table - steps) ∙ too_low d (length table - steps) (omega (arith, l, k.few)))
  where
    too_low : (d n : ℕ) → n < d → nat_le d n ≡ false
    too_low d n h = grind (arith, nat_tests)

pub climb_ended : (table depths : List (Option ℕ)) (node steps at : ℕ) → Climbs table node steps at → AreDepths table depths
    → slice_get depths at ≡ Some None → length table ≤ steps → comes (length table) table node ≡ false
climb_ended table depths node steps at k a e l =
    let s : length table - steps ≡ 0 = omega (arith, l) in
    let h = below table depths at a e in
    k.left ∙ (ap (λ (n : ℕ). comes n table at) s ∙ apart at h)
  where
    apart : (v : ℕ) → 0 < v → (v == 0) ≡ false
    apart v h = grind (arith, nat_tests)

-- ---- tables in which nothing stands

abbrev the_none : Option ℕ
the_none = None

none_at : (n v : ℕ) → v < n → slice_get (replicate n (the_none)) v ≡ Some None
none_at zero v h = absurd (omega (arith, h))
none_at (suc n) zero h = refl
none_at (suc n) (suc v) h = none_at n v (omega (arith, h))

pub empty_new : (n : ℕ) → AreEmpty n (replicate n None)
empty_new n = (length-replicate n None, λ v h. none_at n v h)

take_at : {A : Type 0} (xs : List A) (n v : ℕ) → v < n → slice_get (take n xs) v ≡ slice_get xs v
take_at xs zero v h = absurd (omega (arith, h))
take_at [] (suc n) v h = refl
take_at (x ∷ xs) (suc n) zero h = refl
take_at (x ∷ xs) (suc n) (suc v) h = take_at xs n v (omega (arith, h))

take_count : {A : Type 0} (xs : List A) (n : ℕ) → n ≤ length xs → length (take n xs) ≡ n
take_count xs zero h = refl
take_count [] (suc n) h = absurd (omega (arith, h))
take_count (x ∷ xs) (suc n) h = ap suc (take_count xs n (omega (arith, h)))

pub empty_take : (m n : ℕ) (table : List (Option ℕ)) → n ≤ m → AreEmpty m table → AreEmpty n (take n table)
empty_take m n table h e = (take_count table n (omega (arith, h, e.0)), λ v l. take_at table n v l ∙ e.1 v (omega (arith, h, l)))

-- ---- ends

pub none_is : (o : Option ℕ) (b : Bool) → is_some o ≡ not b → b ≡ true → o ≡ None
none_is None b e t = refl
none_is (Some p) b e t = let f : true ≡ false = e ∙ ap not t in absurd (cc)

pub climb_end : (table depths : List (Option ℕ)) (node steps at d : ℕ) → Climbs table node steps at → AreDepths table depths → slice_get depths at ≡ Some (Some d) → (o : Option ℕ)
    → MatchOption o (length table < d + steps) (λ found. (found ≡ d + steps) × (d + steps ≤ length table)) → IsDepthFound o table node
climb_end table depths node steps at d k a e None m = climb_far table depths node steps at d k a e m
climb_end table depths node steps at d k a e (Some n) m = climb_found table depths node steps at d n k a e m.0 (omega (arith, m.0, m.1))

pub some_if : (ns : List Node) (b : Bool) → IsTrue b ↔ (ns ≡ []) → b ≡ false → 0 < length ns
some_if [] b h e = let t : IsTrue b = h.1 refl in absurd (cc)
some_if (x ∷ xs) b h e = omega arith
