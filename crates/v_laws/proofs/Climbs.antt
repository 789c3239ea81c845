-- From each instance one comes to the top in as many steps as its path has names more than the top's.
use Rattle.std.proofs.Common.{◌≡◌, ◌≤◌, ◌<◌, ◌+◌, ◌∙◌, ℕ, zero, suc, min, Bool, true, false, List, [], ◌∷◌, length, map, nat_lt, slice_get, Option, Some, refl, sym, ap, arith, if◌then◌else◌, length-append}
use Rattle.std.specs.Prelude.{◌==◌, ◌||◌}
use Rattle.std.proofs.lemmas.Bool.Decides.{nat_tests}
use Rattle.gpi.specs.declared.design.Spot.{Spot}
use Rattle.gpi.specs.declared.design.Spot.TheVariants.{Inner, Sig, Words}
use Rattle.gpi.specs.Soundness.{IsTree, at_parent, climbs, is_child, parent_from, times_among, times_child}
use Rattle.v_flat.specs.Paths.{NodeAt, Path, below, node_of}
use Rattle.v_flat.specs.Design.{Design}
use Rattle.v_laws.specs.Instances.{IsAt, IsNodeAt}

abbrev Children : Type 0
Children = List (List ℕ × Spot)

-- one of the children is this instance
record HasChild (v : ℕ) (children : Children) : Type 0 where
  at : ℕ
  name : List ℕ
  there : slice_get children at ≡ Some (name, Inner v)

child_later : (v : ℕ) (c : List ℕ × Spot) (children : Children) → HasChild v children → HasChild v (c ∷ children)
child_later v c children h = record { at = suc h.at; name = h.name; there = h.there }

child_first : (v : ℕ) (name : List ℕ) (s : Spot) (children : Children) → is_child v s ≡ true → HasChild v ((name, s) ∷ children)
child_first v name (Inner k) children e =
    let same : k ≡ v = grind (arith, nat_tests) in record { at = 0; name = name; there = ap (λ (n : ℕ). Some (name, Inner n)) same }
child_first v name (Sig s) children e = absurd (cc)
child_first v name (Words first low count) children e = absurd (cc)

has_child : (v : ℕ) (children : Children) → 1 ≤ times_among v children → HasChild v children
has_child v [] h = absurd (omega (arith, h))
has_child v (c ∷ children) h = by (is_child v c.1) refl h (λ k. has_child v children k)
  where
    by : (b : Bool) → is_child v c.1 ≡ b → 1 ≤ (if b then min 2 (times_among v children + 1) else times_among v children) → (1 ≤ times_among v children → HasChild v children)
        → HasChild v (c ∷ children)
    by true e k later = child_first v c.0 c.1 children e
    by false e k later = child_later v c children (later k)

-- the parent of an instance that is a child, among instances that are numbered from n on
record HasParent (v n : ℕ) (nodes : List NodeAt) : Type 0 where
  at : ℕ
  node : NodeAt
  is : parent_from v n (map node_of nodes) ≡ Some (n + at)
  there : slice_get nodes at ≡ Some node
  child : 1 ≤ times_among v node.children

has_parent : (v n : ℕ) (nodes : List NodeAt) → 1 ≤ times_child v (map node_of nodes) → HasParent v n nodes
has_parent v n [] h = absurd (omega (arith, h))
has_parent v n (x ∷ nodes) h = by (nat_lt 0 (times_among v x.children)) refl (λ k. has_parent v (suc n) nodes k)
  where
    by : (b : Bool) → nat_lt 0 (times_among v x.children) ≡ b → (1 ≤ times_child v (map node_of nodes) → HasParent v (suc n) nodes) → HasParent v n (x ∷ nodes)
    by true e later = record {
      at = 0;
      node = x;
      is = rw e (ap (λ (m : ℕ). Some m) (omega arith));
      there = refl;
      child = grind (arith, nat_tests);
    }
    by false e later =
        let none : times_among v x.children ≡ 0 = grind (arith, nat_tests) in
        let p = later (omega (arith, h, none)) in
        record {
          at = suc p.at;
          node = p.node;
          is = rw e (p.is ∙ ap (λ (m : ℕ). Some m) (omega arith));
          there = p.there;
          child = p.child;
        }

module _ (d : Design) (tree : IsTree (map node_of d.nodes)) (filled : (v : ℕ) (x : NodeAt) → slice_get d.nodes v ≡ Some x → 1 ≤ length x.path)
    (places : (v j : ℕ) (x : NodeAt) (c : List ℕ × Spot) → slice_get d.nodes v ≡ Some x → slice_get x.children j ≡ Some c → IsAt d (below x.path c.0) c.1) where
  -- an instance that isn't the top stands in another one, whose path is shorter
  record StandsIn (v : ℕ) (x : NodeAt) : Type 0 where
    at : ℕ
    node : NodeAt
    is : parent_from v 0 (map node_of d.nodes) ≡ Some at
    there : slice_get d.nodes at ≡ Some node
    shorter : length node.path + 1 ≡ length x.path

  one_node : (v : ℕ) (x y : NodeAt) → slice_get d.nodes v ≡ Some x → slice_get d.nodes v ≡ Some y → x ≡ y
  one_node v x y e f = cc

  stands_in : (v : ℕ) (x : NodeAt) → v < length (map node_of d.nodes) → slice_get d.nodes v ≡ Some x → (v == 0) ≡ false → StandsIn v x
  stands_in v x less f other =
      let placed : times_child v (map node_of d.nodes) ≡ (if v == 0 then 0 else 1) = (tree.each v less).0 in
      let once : times_child v (map node_of d.nodes) ≡ 1 = placed ∙ ap (λ (b : Bool). if b then 0 else 1) other in
      let p = has_parent v 0 d.nodes (omega (arith, once)) in
      let c = has_child v p.node.children p.child in
      let n : IsNodeAt d v (below p.node.path c.name) = places p.at c.at p.node (c.name, Inner v) p.there c.there in
      let same : n.node ≡ x = one_node v n.node x n.there f in
      let long : length (below p.node.path c.name) ≡ length p.node.path + 1 = length-append p.node.path (c.name ∷ []) in
      record {
        at = p.at;
        node = p.node;
        is = p.is ∙ ap (λ (m : ℕ). Some m) (omega arith);
        there = p.there;
        shorter = sym long ∙ ap (λ (path : Path). length path) (sym n.path_is ∙ ap (λ (y : NodeAt). y.path) same);
      }

  get_less : (ns : List NodeAt) (v : ℕ) (x : NodeAt) → slice_get ns v ≡ Some x → v < length (map node_of ns)
  get_less [] v x e = absurd (cc)
  get_less (n ∷ ns) zero x e = omega arith
  get_less (n ∷ ns) (suc v) x e = let l = get_less ns v x e in omega (arith, l)

  pub climbs_so : (steps v : ℕ) (x : NodeAt) → slice_get d.nodes v ≡ Some x → length x.path ≤ steps + 1 → climbs steps (map node_of d.nodes) v ≡ true
  climbs_so zero v x f l = by (v == 0) refl
    where
      by : (b : Bool) → (v == 0) ≡ b → (v == 0) ≡ true
      by true e = e
      by false e =
          let s = stands_in v x (get_less d.nodes v x f) f e in
          let a = filled s.at s.node s.there in let b = s.shorter in absurd (omega (arith, a, b, l))
  climbs_so (suc steps) v x f l = by (v == 0) refl (λ w y g k. climbs_so steps w y g k)
    where
      by : (b : Bool) → (v == 0) ≡ b → ((w : ℕ) (y : NodeAt) → slice_get d.nodes w ≡ Some y → length y.path ≤ steps + 1 → climbs steps (map node_of d.nodes) w ≡ true)
          → ((v == 0) || at_parent (parent_from v 0 (map node_of d.nodes)) (climbs steps (map node_of d.nodes))) ≡ true
      by true e up = rw e refl
      by false e up =
          let s = stands_in v x (get_less d.nodes v x f) f e in
          let b = s.shorter in
          rw e (ap (λ (o : Option ℕ). at_parent o (climbs steps (map node_of d.nodes))) s.is ∙ up s.at s.node s.there (omega (arith, b, l)))
