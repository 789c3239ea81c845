-- The instances of a design form a tree.
use Rattle.std.proofs.Common.{◌≡◌, ◌<◌, ◌≤◌, ◌+◌, ◌==◌, ◌&&◌, ◌||◌, ◌∙◌, ℕ, suc, zero, min, Bool, true, false, IsTrue, List, [], ◌∷◌, ◌++◌, length, map, nat_lt, slice_set, Option, Some, refl, sym, ap, subst, arith, if◌then◌else◌}
use Rattle.std.proofs.lemmas.List.{append_assoc, length-append, length-map}
use Rattle.std.proofs.lemmas.Bool.Decides.{nat_tests}
use Rattle.gpi.specs.declared.design.Spot.{Spot}
use Rattle.gpi.specs.declared.design.Spot.TheVariants.{Inner, Sig, Words}
use Rattle.gpi.specs.Soundness.{IsPlaced, IsTree, at_parent, climbs, is_child, parent_from, times_among, times_child}
use Rattle.v_syntax.specs.declared.statement.Identifier.{Identifier}
use Rattle.v_syntax.specs.SourceTrees.{ModuleTree}
use Rattle.v_flat.specs.Scope.Found.{HoldsOk}
use Rattle.v_flat.specs.Targets.{Drive}
use Rattle.v_flat.specs.Headers.{ports_of}
use Rattle.v_flat.specs.Declarations.{Declared, Entries, in_order}
use Rattle.v_flat.specs.Paths.{NodeAt, Path, below, node_of}
use Rattle.v_flat.specs.Design.{Modules, closed, Design, flat_design, opened, Outside, State, with_child}
use Rattle.v_flat.proofs.ShapeLemmas.Nodes.{AreAbove, Children, EachAbove, IsAbove, above_more, count, count_more, declared_above, each_above_more, is_behind, none_declared, one_if, set_behind, total, total_more}
use Rattle.v_flat.proofs.ShapeLemmas.Kept.{Keeps, joints_keep, plain_holds}
use Rattle.v_flat.proofs.ShapeLemmas.Walk.{Steps, design_holds, opening, scope_of}

-- ---- while it is walked

-- behind the nodes of d stand those of one instance and what is below it, each of which but the first is the child of one before it, once
record Grows (path : Path) (d e : Design) : Type 0 where
  news : List NodeAt
  some : 1 ≤ length news
  nodes : e.nodes ≡ d.nodes ++ news
  counts : (v : ℕ) → total v news ≡ one_if (is_behind v (length d.nodes) (length news))
  above : EachAbove (length d.nodes) news

abbrev empty_node : Path → NodeAt
empty_node path = record { path = path; children = [] }

-- between two items the node of the instance has no children yet
record Between (path : Path) (d : Design) (ds : List Declared) (s : State) : Type 0 where
  news : List NodeAt
  nodes : s.design.nodes ≡ d.nodes ++ (empty_node path ∷ news)
  counts : (v : ℕ) → count v s.children + total v news ≡ one_if (is_behind v (length d.nodes) (suc (length news)))
  above : AreAbove (length d.nodes) s.children
  each : EachAbove (suc (length d.nodes)) news

none_behind : (v a : ℕ) → one_if (is_behind v a 1) ≡ 0
none_behind v a = go (nat_lt a v) (nat_lt v (a + 1)) refl refl
  where
    go : (x y : Bool) → nat_lt a v ≡ x → nat_lt v (a + 1) ≡ y → one_if (x && y) ≡ 0
    go true true h k = absurd (grind (arith, nat_tests))
    go true false h k = refl
    go false y h k = refl

opens_between : (m : ModuleTree) (path : Path) (out : Outside) (d : Design) (constants : Entries) (ds : List Declared)
    → Between path d ds (opening m path out d (scope_of constants d ds) ds)
opens_between m path out d constants ds = record {
  news = [];
  nodes = (joints_keep out.scope out.joints (scope_of constants d ds) (ports_of m) (opened path ds d)).nodes;
  counts = λ v. let h = none_declared v (length d.signals) ds in let k = none_behind v (length d.nodes) in omega (arith, h, k);
  above = declared_above (length d.nodes) (length d.signals) ds;
  each = tt;
}

kept_between : (path : Path) (d : Design) (ds : List Declared) (s t : State) → Between path d ds s → Keeps s t → Between path d ds t
kept_between path d ds s t h k = record {
  news = h.news;
  nodes = k.nodes ∙ h.nodes;
  counts = λ v. ap (λ cs. count v cs + total v h.news) k.children ∙ h.counts v;
  above = subst (λ cs. AreAbove (length d.nodes) cs) (sym k.children) h.above;
  each = h.each;
}

-- the child's nodes stand behind those so far
more_behind : (v a n m : ℕ) → 1 ≤ m → one_if (is_behind v a (suc n)) + (one_if (a + suc n == v) + one_if (is_behind v (a + suc n) m)) ≡ one_if (is_behind v a (suc (n + m)))
more_behind v a n m some = go (nat_lt a v) (nat_lt v (a + suc n)) (a + suc n == v) (nat_lt (a + suc n) v) (nat_lt v ((a + suc n) + m)) (nat_lt v (a + suc (n + m))) refl refl refl refl refl refl
  where
    go : (p q r s t u : Bool) → nat_lt a v ≡ p → nat_lt v (a + suc n) ≡ q → (a + suc n == v) ≡ r → nat_lt (a + suc n) v ≡ s → nat_lt v ((a + suc n) + m) ≡ t → nat_lt v (a + suc (n + m)) ≡ u
        → one_if (p && q) + (one_if r + one_if (s && t)) ≡ one_if (p && u)
    go p q r s t u h1 h2 h3 h4 h5 h6 = grind (arith, nat_tests)

inner_between : (path : Path) (d : Design) (ds : List Declared) (i : Identifier) (driven : List Drive) (s : State) (e : Design) → Between path d ds s
    → Grows (below path i.name) s.design e → Between path d ds (with_child i.name (length s.design.nodes) driven s e)
inner_between path d ds i driven s e h g = record {
  news = h.news ++ g.news;
  nodes = g.nodes ∙ ap (λ ns. ns ++ g.news) h.nodes ∙ append_assoc d.nodes (empty_node path ∷ h.news) g.news;
  counts = λ v.
      let l1 = count_more v s.children ((i.name, Inner (length s.design.nodes)) ∷ []) in
      let l2 = total_more v h.news g.news in
      let l7 = length-append h.news g.news in
      rw l7 (sum_is v (count v (s.children ++ ((i.name, Inner (length s.design.nodes)) ∷ []))) (total v (h.news ++ g.news)) l1 l2);
  above = above_more (length d.nodes) s.children ((i.name, Inner (length s.design.nodes)) ∷ []) h.above (later, tt);
  each = each_above_more (suc (length d.nodes)) h.news g.news h.each (subst (λ n. EachAbove n g.news) place_suc g.above);
}
  where
    place : length s.design.nodes ≡ length d.nodes + suc (length h.news)
    place = ap length h.nodes ∙ length-append d.nodes (empty_node path ∷ h.news)

    place_suc : length s.design.nodes ≡ suc (length d.nodes) + length h.news
    place_suc = let e = place in omega (arith, e)

    later : length d.nodes < length s.design.nodes
    later = let e = place in omega (arith, e)

    sum_is : (v x y : ℕ) → x ≡ count v s.children + (one_if (length s.design.nodes == v) + 0) → y ≡ total v h.news + total v g.news
        → x + y ≡ one_if (is_behind v (length d.nodes) (suc (length h.news + length g.news)))
    sum_is v x y ex ey =
        let l3 = h.counts v in
        let l4 : total v g.news ≡ one_if (is_behind v (length d.nodes + suc (length h.news)) (length g.news)) =
        g.counts v ∙ ap (λ n. one_if (is_behind v n (length g.news))) place in
        let l5 = more_behind v (length d.nodes) (length h.news) (length g.news) g.some in
        let l6 : one_if (length s.design.nodes == v) ≡ one_if (length d.nodes + suc (length h.news) == v) = ap (λ n. one_if (n == v)) place in
        omega (arith, ex, ey, l3, l4, l5, l6)

closes_grows : (path : Path) (d : Design) (ds : List Declared) (t : State) → Between path d ds t → Grows path d (closed path (length d.nodes) t)
closes_grows path d ds t h = record {
  news = record { path = path; children = t.children } ∷ h.news;
  some = omega arith;
  nodes = ap (λ ns. slice_set ns (length d.nodes) (record { path = path; children = t.children })) h.nodes
      ∙ set_behind d.nodes (empty_node path) (record { path = path; children = t.children }) h.news;
  counts = h.counts;
  above = (h.above, h.each);
}

abbrev Anything : ModuleTree → Outside → Design → Type 0
Anything m out d = Unit {0}

tree_steps : Steps Anything Grows Between
tree_steps = record {
  opens = λ m path out d constants ds h e. opens_between m path out d constants (in_order (ports_of m) ds);
  plain = λ q path d ds p k s h. plain_holds (Between path d ds) q p k s (λ t keeps. kept_between path d ds s t h keeps);
  given = λ path d ds p v i c s m x h few e. tt;
  inner = λ path d ds i driven s e h few is g. inner_between path d ds i driven s e h g;
  closes = closes_grows;
}

-- ---- the whole

among : (v : ℕ) (cs : Children) → times_among v cs ≡ min 2 (count v cs)
among v [] = refl
among v (c ∷ cs) = go (is_child v c.1) (among v cs)
  where
    go : (b : Bool) → times_among v cs ≡ min 2 (count v cs) → (if b then min 2 (times_among v cs + 1) else times_among v cs) ≡ min 2 (one_if b + count v cs)
    go true h = rw h (omega arith)
    go false h = rw h (omega arith)

children_are : (v : ℕ) (ns : List NodeAt) → times_child v (map node_of ns) ≡ min 2 (total v ns)
children_are v [] = refl
children_are v (n ∷ ns) = let h = among v n.children in let k = children_are v ns in rw h (rw k (omega arith))

-- an instance among the children has a number above theirs
among_above : (v a : ℕ) (cs : Children) → AreAbove a cs → 1 ≤ count v cs → a < v
among_above v a [] h k = omega (arith, k)
among_above v a (c ∷ cs) h k = go (among_above v a cs h.1) c.1 h.0 k
  where
    at : (1 ≤ count v cs → a < v) → (n : ℕ) (b : Bool) → (n == v) ≡ b → a < n → 1 ≤ one_if b + count v cs → a < v
    at later n true e x y = grind (arith, nat_tests)
    at later n false e x y = later (omega (arith, y))

    go : (1 ≤ count v cs → a < v) → (s : Spot) → IsAbove a s → 1 ≤ one_if (is_child v s) + count v cs → a < v
    go later (Inner n) x y = at later n (n == v) refl x y
    go later (Sig s) x y = later (omega (arith, y))
    go later (Words f l n) x y = later (omega (arith, y))

-- the parent of a node stands before it
parent_before : (v a : ℕ) (ns : List NodeAt) → EachAbove a ns → 1 ≤ total v ns → (p : ℕ) × (parent_from v a (map node_of ns) ≡ Some p) × (p < v)
parent_before v a [] h k = absurd (omega (arith, k))
parent_before v a (n ∷ ns) h k = go (parent_before v (suc a) ns h.1) (nat_lt 0 (times_among v n.children)) refl
  where
    go : (1 ≤ total v ns → (p : ℕ) × (parent_from v (suc a) (map node_of ns) ≡ Some p) × (p < v)) → (b : Bool) → nat_lt 0 (times_among v n.children) ≡ b → (p : ℕ) × ((if b then Some a else parent_from v (suc a) (map node_of ns)) ≡ Some p) × (p < v)
    go later true e = (a, refl, among_above v a n.children h.0 (let f = among v n.children in grind (arith, nat_tests)))
    go later false e = later (let f = among v n.children in grind (arith, nat_tests))

-- each node but the first is a child, once
abbrev AreOnce : List NodeAt → Type 0
AreOnce ns = (v : ℕ) → total v ns ≡ one_if (is_behind v 0 (length ns))

once : (ns : List NodeAt) → AreOnce ns → (v : ℕ) → 1 ≤ v → v < length ns → total v ns ≡ 1
once ns h v l u = h v ∙ go (nat_lt 0 v) (nat_lt v (0 + length ns)) refl refl
  where
    go : (x y : Bool) → nat_lt 0 v ≡ x → nat_lt v (0 + length ns) ≡ y → one_if (x && y) ≡ 1
    go x y e f = grind (arith, nat_tests)

climbs_up : (ns : List NodeAt) → AreOnce ns → EachAbove 0 ns → (steps v : ℕ) → v ≤ steps → v < length ns → climbs steps (map node_of ns) v ≡ true
climbs_up ns h k zero v l u = grind (arith, nat_tests)
climbs_up ns h k (suc steps) v l u = go (climbs_up ns h k steps) (v == 0) refl
  where
    go : ((w : ℕ) → w ≤ steps → w < length ns → climbs steps (map node_of ns) w ≡ true) → (b : Bool) → (v == 0) ≡ b → (b || at_parent (parent_from v 0 (map node_of ns)) (climbs steps (map node_of ns))) ≡ true
    go up true e = refl
    go up false e =
        let one : 1 ≤ v = grind (arith, nat_tests) in
        let f : total v ns ≡ 1 = once ns h v one u in
        let p = parent_before v 0 ns k (omega (arith, f)) in
        ap (λ o. at_parent o (climbs steps (map node_of ns))) p.1 ∙ up p.0 (let q = p.2 in omega (arith, q, l)) (let q = p.2 in omega (arith, q, u))

root_free : (ns : List NodeAt) → AreOnce ns → total 0 ns ≡ 0
root_free ns h = h 0 ∙ refl

is_placed : (ns : List NodeAt) → AreOnce ns → EachAbove 0 ns → (v : ℕ) → v < length ns → IsPlaced (map node_of ns) v
is_placed ns h k v u = (children_are v ns ∙ go (v == 0) refl, climb)
  where
    go : (b : Bool) → (v == 0) ≡ b → min 2 (total v ns) ≡ (if b then 0 else 1)
    go true e = let z : v ≡ 0 = grind (arith, nat_tests) in let f = root_free ns h in rw z (rw f refl)
    go false e = let one : 1 ≤ v = grind (arith, nat_tests) in let f = once ns h v one u in rw f refl

    climb : IsTrue (climbs (length (map node_of ns)) (map node_of ns) v)
    climb = let e = length-map ns node_of in rw e (climbs_up ns h k (length ns) v (omega (arith, u)) u)

is_tree : (ns : List NodeAt) → 1 ≤ length ns → AreOnce ns → EachAbove 0 ns → IsTree (map node_of ns)
is_tree ns l h k = record {
  root = let e = length-map ns node_of in omega (arith, e, l);
  each = λ v u. is_placed ns h k v (let e = length-map ns node_of in omega (arith, e, u));
}

pub trees : (ms : Modules) (top : Option (List ℕ)) → HoldsOk (λ (d : Design). IsTree (map node_of d.nodes)) (flat_design ms top)
trees ms top =
    design_holds Anything Grows Between tree_steps (λ (d : Design). IsTree (map node_of d.nodes)) (λ m. tt)
    (λ path e g. subst (λ ns. IsTree (map node_of ns)) (sym g.nodes) (is_tree g.news g.some g.counts g.above)) ms top
