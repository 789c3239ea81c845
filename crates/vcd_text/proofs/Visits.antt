-- A design declares each instance once: so there are no more of them than nodes.
use Rattle.std.specs.Prelude.{◌≡◌, ◌≢◌, ◌⊎◌, ◌<◌, ◌≤◌, ◌+◌, ◌==◌, ◌||◌, ℕ, zero, suc, min, nat_lt, Bool, true, false, List, [], ◌∷◌, ◌++◌, length, Option, None, Some, if◌then◌else◌, refl}
use Rattle.std.proofs.Common.{ap, sym, subst, ◌∙◌, arith, length-append, inl, inr}
use Rattle.std.proofs.lemmas.Bool.{and_parts, true≢false}
use Rattle.std.proofs.lemmas.Bool.Decides.{eqb_tells, nat_tests}
use Rattle.gpi.specs.declared.design.Spot.TheVariants.{Inner, Sig, Words}
use Rattle.gpi.specs.declared.design.Node.{Node}
use Rattle.gpi.specs.Soundness.{IsTree, are_nodes, are_spots, at_parent, climbs, is_spot, parent_from, times_among, times_child}
use Rattle.vcd_text.specs.Hierarchy.{Children, Declaration, Opens, Declares, Closes, children_of, inner_instances, instance_of, own_signals}

-- ---- how often

-- 1 where both are one number
abbrev same : ℕ → ℕ → ℕ
same a b = if a == b then 1 else 0

abbrev count : ℕ → List ℕ → ℕ
count v [] = 0
count v (x ∷ xs) = same x v + count v xs

count_both : (v : ℕ) (xs ys : List ℕ) → count v (xs ++ ys) ≡ count v xs + count v ys
count_both v [] ys = omega arith
count_both v (x ∷ xs) ys = let h = count_both v xs ys in omega (arith, h)

same_is : (a b : ℕ) → a ≡ b → same a b ≡ 1
same_is a b e = by (eqb_tells a b)
  where
    by : (((a == b) ≡ true) × (a ≡ b)) ⊎ (((a == b) ≡ false) × (a ≢ b)) → same a b ≡ 1
    by (inl h) = ap (λ (t : Bool). if t then 1 else 0) h.0
    by (inr h) = absurd (h.1 e)

same_not : (a b : ℕ) → a ≢ b → same a b ≡ 0
same_not a b n = by (eqb_tells a b)
  where
    by : (((a == b) ≡ true) × (a ≡ b)) ⊎ (((a == b) ≡ false) × (a ≢ b)) → same a b ≡ 0
    by (inl h) = absurd (n h.1)
    by (inr h) = ap (λ (t : Bool). if t then 1 else 0) h.0

equal_or_not : (a b : ℕ) → (a ≡ b) ⊎ (a ≢ b)
equal_or_not a b = by (eqb_tells a b)
  where
    by : (((a == b) ≡ true) × (a ≡ b)) ⊎ (((a == b) ≡ false) × (a ≢ b)) → (a ≡ b) ⊎ (a ≢ b)
    by (inl h) = inl h.1
    by (inr h) = inr h.1

-- ---- numbers below a bound, each of which comes once at the most

abbrev Below : ℕ → List ℕ → Type 0
Below n [] = Unit {0}
Below n (x ∷ xs) = (x < n) × Below n xs

-- the list without that number
without : ℕ → List ℕ → List ℕ
without v [] = []
without v (x ∷ xs) = if x == v then without v xs else x ∷ without v xs

kept_by : (v x : ℕ) (xs : List ℕ) (b : Bool) → (x == v) ≡ b → length (without v xs) + count v xs ≡ length xs
    → length (if b then without v xs else x ∷ without v xs) + ((if b then 1 else 0) + count v xs) ≡ length (x ∷ xs)
kept_by v x xs true e h = omega (arith, h)
kept_by v x xs false e h = omega (arith, h)

without_length : (v : ℕ) (xs : List ℕ) → length (without v xs) + count v xs ≡ length xs
unfolding without
without_length v [] = refl
without_length v (x ∷ xs) = kept_by v x xs (x == v) refl (without_length v xs)

count_by : (v w x : ℕ) (xs : List ℕ) (b : Bool) → count w (without v xs) ≤ count w xs → count w (if b then without v xs else x ∷ without v xs) ≤ same x w + count w xs
count_by v w x xs true h = omega (arith, h)
count_by v w x xs false h = omega (arith, h)

without_count : (v w : ℕ) (xs : List ℕ) → count w (without v xs) ≤ count w xs
unfolding without
without_count v w [] = omega arith
without_count v w (x ∷ xs) = count_by v w x xs (x == v) (without_count v w xs)

below_by : (n x : ℕ) (xs : List ℕ) → (((x == n) ≡ true) × (x ≡ n)) ⊎ (((x == n) ≡ false) × (x ≢ n)) → x < suc n → Below n (without n xs) → Below n (if x == n then without n xs else x ∷ without n xs)
below_by n x xs (inl h) l b = subst (λ (t : Bool). Below n (if t then without n xs else x ∷ without n xs)) (sym h.0) b
below_by n x xs (inr h) l b = subst (λ (t : Bool). Below n (if t then without n xs else x ∷ without n xs)) (sym h.0) (let d = h.1 in omega (arith, d, l), b)

without_below : (n : ℕ) (xs : List ℕ) → Below (suc n) xs → Below n (without n xs)
unfolding without
without_below n [] h = tt
without_below n (x ∷ xs) h = below_by n x xs (eqb_tells x n) h.0 (without_below n xs h.1)

none_below : (xs : List ℕ) → Below 0 xs → length xs ≡ 0
none_below [] h = refl
none_below (x ∷ xs) h = let l = h.0 in absurd (omega (arith, l))

pub few : (n : ℕ) (xs : List ℕ) → Below n xs → ((v : ℕ) → v < n → count v xs ≤ 1) → length xs ≤ n
few zero xs b once = let h = none_below xs b in omega (arith, h)
few (suc n) xs b once =
    let more = few n (without n xs) (without_below n xs b) (λ v l. let h = once v (omega (arith, l)) in let w = without_count n v xs in omega (arith, h, w)) in
    let e = without_length n xs in let o = once n (omega arith) in omega (arith, more, e, o)

-- ---- instances that are declared

abbrev visits_in : (ℕ → List ℕ) → Children → List ℕ
visits_in visits [] = []
visits_in visits ((name, Inner node) ∷ children) = visits node ++ visits_in visits children
visits_in visits ((name, Sig signal) ∷ children) = visits_in visits children
visits_in visits ((name, Words first low count) ∷ children) = visits_in visits children

-- the nodes of an instance and of those inside it, in order
abbrev visits : List Node → ℕ → ℕ → List ℕ
visits nodes zero node = []
visits nodes (suc room) node = node ∷ visits_in (visits nodes room) (children_of nodes node)

-- how many instances begin
abbrev pub begins : List Declaration → ℕ
begins [] = 0
begins (Opens name ∷ declarations) = suc (begins declarations)
begins (Declares signal name ∷ declarations) = begins declarations
begins (Closes ∷ declarations) = begins declarations

pub begins_both : (xs ys : List Declaration) → begins (xs ++ ys) ≡ begins xs + begins ys
begins_both [] ys = omega arith
begins_both (Opens name ∷ xs) ys = let h = begins_both xs ys in omega (arith, h)
begins_both (Declares signal name ∷ xs) ys = begins_both xs ys
begins_both (Closes ∷ xs) ys = begins_both xs ys

signals_begin : (children : Children) → begins (own_signals children) ≡ 0
signals_begin [] = refl
signals_begin ((name, Sig signal) ∷ children) = signals_begin children
signals_begin ((name, Inner node) ∷ children) = signals_begin children
signals_begin ((name, Words first low count) ∷ children) = signals_begin children

inner_begins : (declared : List ℕ → ℕ → List Declaration) (visits : ℕ → List ℕ) → ((name : List ℕ) (node : ℕ) → begins (declared name node) ≡ length (visits node)) → (children : Children)
    → begins (inner_instances declared children) ≡ length (visits_in visits children)
inner_begins declared visits each [] = refl
inner_begins declared visits each ((name, Inner node) ∷ children) =
    let h = inner_begins declared visits each children in let e = each name node in
    begins_both (declared name node) (inner_instances declared children) ∙ (omega (arith, h, e, length-append (visits node) (visits_in visits children)))
inner_begins declared visits each ((name, Sig signal) ∷ children) = inner_begins declared visits each children
inner_begins declared visits each ((name, Words first low count) ∷ children) = inner_begins declared visits each children

begins_is : (nodes : List Node) (room : ℕ) (name : List ℕ) (node : ℕ) → begins (instance_of nodes room name node) ≡ length (visits nodes room node)
begins_is nodes zero name node = refl
begins_is nodes (suc room) name node =
    let children = children_of nodes node in
    let inner = inner_begins (instance_of nodes room) (visits nodes room) (begins_is nodes room) children in
    let a = begins_both (own_signals children ++ inner_instances (instance_of nodes room) children) (Closes ∷ []) in
    let b = begins_both (own_signals children) (inner_instances (instance_of nodes room) children) in
    let c = signals_begin children in omega (arith, inner, a, b, c)

-- ---- each node is declared once at the most

-- how often a node is among children
abbrev among : ℕ → Children → ℕ
among v [] = 0
among v ((name, Inner node) ∷ children) = same node v + among v children
among v ((name, Sig signal) ∷ children) = among v children
among v ((name, Words first low count) ∷ children) = among v children

min_by : (a n : ℕ) (b : Bool) → a ≡ min 2 n → (if b then min 2 (a + 1) else a) ≡ min 2 ((if b then 1 else 0) + n)
min_by a n true e = omega (arith, e)
min_by a n false e = omega (arith, e)

among_is : (v : ℕ) (children : Children) → times_among v children ≡ min 2 (among v children)
among_is v [] = refl
among_is v ((name, Inner node) ∷ children) = min_by (times_among v children) (among v children) (node == v) (among_is v children)
among_is v ((name, Sig signal) ∷ children) = among_is v children
among_is v ((name, Words first low count) ∷ children) = among_is v children

-- a node that is no child of these is among none of their children
no_child : (v : ℕ) (nodes : List Node) → times_child v nodes ≡ 0 → (u : ℕ) → among v (children_of nodes u) ≡ 0
no_child v [] h zero = refl
no_child v [] h (suc u) = refl
no_child v (node ∷ nodes) h zero = let e = among_is v node.children in omega (arith, e, h)
no_child v (node ∷ nodes) h (suc u) = no_child v nodes (omega (arith, h)) u

positive : (m : ℕ) (b : Bool) → nat_lt 0 m ≡ b → (b ≡ true → 0 < m) × (b ≡ false → m ≡ 0)
positive m b e = (λ t. grind (arith, nat_tests), λ f. grind (arith, nat_tests))

-- a node that is a child once is so of the first node that has it
here : (n p : ℕ) → Some n ≡ Some p → n ≡ p
here n p s = cc

parent_by : (v n p : ℕ) (node : Node) (nodes : List Node) → times_child v (node ∷ nodes) ≡ 1
    → (times_child v nodes ≡ 1 → parent_from v (suc n) nodes ≡ Some p → (u : ℕ) → among v (children_of nodes u) ≤ same (suc n + u) p)
    → (b : Bool) → nat_lt 0 (times_among v node.children) ≡ b → (if b then Some n else parent_from v (suc n) nodes) ≡ Some p → (u : ℕ) → among v (children_of (node ∷ nodes) u) ≤ same (n + u) p
parent_by v n p node nodes h others true is s zero =
    let m = among_is v node.children in let f = same_is (n + 0) p (let k = here n p s in omega (arith, k)) in
    let pos = (positive (times_among v node.children) true is).0 refl in omega (arith, h, m, f, pos)
parent_by v n p node nodes h others true is s (suc u) =
    let pos = (positive (times_among v node.children) true is).0 refl in let z = no_child v nodes (omega (arith, h, pos)) u in omega (arith, z)
parent_by v n p node nodes h others false is s zero =
    let m = among_is v node.children in let z = (positive (times_among v node.children) false is).1 refl in omega (arith, z, m)
parent_by v n p node nodes h others false is s (suc u) =
    let z = (positive (times_among v node.children) false is).1 refl in
    subst (λ (k : ℕ). among v (children_of nodes u) ≤ same k p) (omega arith) (others (omega (arith, h, z)) s u)

one_parent : (v n p : ℕ) (nodes : List Node) → times_child v nodes ≡ 1 → parent_from v n nodes ≡ Some p → (u : ℕ) → among v (children_of nodes u) ≤ same (n + u) p
one_parent v n p [] h e u = absurd (omega (arith, h))
one_parent v n p (node ∷ nodes) h e u = parent_by v n p node nodes h (one_parent v (suc n) p nodes) (nat_lt 0 (times_among v node.children)) refl e u

-- the top is visited where visits begin alone
root_inside : (visit : ℕ → List ℕ) → ((u : ℕ) → count 0 (visit u) ≤ same u 0) → (children : Children) → among 0 children ≡ 0 → count 0 (visits_in visit children) ≤ 0
root_inside visit each [] e = omega arith
root_inside visit each ((name, Inner node) ∷ children) e =
    let a = each node in let b = root_inside visit each children (omega (arith, e)) in
    let c = count_both 0 (visit node) (visits_in visit children) in omega (arith, a, b, c, e)
root_inside visit each ((name, Sig signal) ∷ children) e = root_inside visit each children e
root_inside visit each ((name, Words first low count) ∷ children) e = root_inside visit each children e

root_count : (nodes : List Node) → times_child 0 nodes ≡ 0 → (room u : ℕ) → count 0 (visits nodes room u) ≤ same u 0
root_count nodes none zero u = omega arith
root_count nodes none (suc room) u =
    let h = root_inside (visits nodes room) (root_count nodes none room) (children_of nodes u) (no_child 0 nodes none u) in omega (arith, h)

-- a node is visited as often as its parent at the most, but for where the visits begin
child_inside : (v p : ℕ) (visit : ℕ → List ℕ) → ((u : ℕ) → count v (visit u) ≤ same u v + count p (visit u)) → (children : Children)
    → count v (visits_in visit children) ≤ among v children + count p (visits_in visit children)
child_inside v p visit each [] = omega arith
child_inside v p visit each ((name, Inner node) ∷ children) =
    let a = each node in let b = child_inside v p visit each children in
    let c = count_both v (visit node) (visits_in visit children) in let d = count_both p (visit node) (visits_in visit children) in omega (arith, a, b, c, d)
child_inside v p visit each ((name, Sig signal) ∷ children) = child_inside v p visit each children
child_inside v p visit each ((name, Words first low count) ∷ children) = child_inside v p visit each children

child_count : (nodes : List Node) (v p : ℕ) → ((u : ℕ) → among v (children_of nodes u) ≤ same u p) → (room u : ℕ) → count v (visits nodes room u) ≤ same u v + count p (visits nodes room u)
child_count nodes v p one zero u = omega arith
child_count nodes v p one (suc room) u =
    let h = child_inside v p (visits nodes room) (child_count nodes v p one room) (children_of nodes u) in let o = one u in omega (arith, h, o)

or_parts : (a b : Bool) → (a || b) ≡ true → (a ≡ true) ⊎ (b ≡ true)
or_parts true b e = inl refl
or_parts false b e = inr e

within_by : (v n p : ℕ) (node : Node) (nodes : List Node) → (parent_from v (suc n) nodes ≡ Some p → p < suc n + length nodes)
    → (b : Bool) → (if b then Some n else parent_from v (suc n) nodes) ≡ Some p → p < n + length (node ∷ nodes)
within_by v n p node nodes others true s = let h = here n p s in omega (arith, h)
within_by v n p node nodes others false s = let h = others s in omega (arith, h)

parent_within : (v n p : ℕ) (nodes : List Node) → parent_from v n nodes ≡ Some p → p < n + length nodes
parent_within v n p [] e = absurd (cc)
parent_within v n p (node ∷ nodes) e = within_by v n p node nodes (parent_within v (suc n) p nodes) (nat_lt 0 (times_among v node.children)) e

module _ (nodes : List Node) (tree : IsTree nodes) (room : ℕ) where
  top_count : (v : ℕ) → v ≡ 0 → count v (visits nodes room 0) ≤ 1
  top_count v e = subst (λ (k : ℕ). count k (visits nodes room 0) ≤ 1) (sym e) (let h = root_count nodes ((tree.each 0 tree.root).0) room 0 in omega (arith, h))

  parent_count : (steps v : ℕ) → v < length nodes → v ≢ 0 → (v == 0) ≡ false → ((p : ℕ) → p < length nodes → climbs steps nodes p ≡ true → count p (visits nodes room 0) ≤ 1)
      → (o : Option ℕ) → parent_from v 0 nodes ≡ o → at_parent o (climbs steps nodes) ≡ true → count v (visits nodes room 0) ≤ 1
  parent_count steps v within other f up None e h = absurd (true≢false (sym h))
  parent_count steps v within other f up (Some p) e h =
      let one : times_child v nodes ≡ 1 = (tree.each v within).0 ∙ ap (λ (b : Bool). if b then 0 else 1) f in
      let mine = child_count nodes v p (λ u. subst (λ (k : ℕ). among v (children_of nodes u) ≤ same k p) (omega arith) (one_parent v 0 p nodes one e u)) room 0 in
      let parent = up p (let w = parent_within v 0 p nodes e in omega (arith, w)) h in
      let apart = same_not 0 v (λ z. other (sym z)) in omega (arith, mine, parent, apart)

  climbs_by : (steps v : ℕ) → v < length nodes → ((p : ℕ) → p < length nodes → climbs steps nodes p ≡ true → count p (visits nodes room 0) ≤ 1)
      → climbs (suc steps) nodes v ≡ true → (((v == 0) ≡ true) × (v ≡ 0)) ⊎ (((v == 0) ≡ false) × (v ≢ 0)) → count v (visits nodes room 0) ≤ 1
  climbs_by steps v within up c (inl h) = top_count v h.1
  climbs_by steps v within up c (inr h) =
      parent_count steps v within h.1 h.0 up (parent_from v 0 nodes) refl (ap (λ (b : Bool). b || at_parent (parent_from v 0 nodes) (climbs steps nodes)) (sym h.0) ∙ c)

  zero_by : (v : ℕ) → (v == 0) ≡ true → (((v == 0) ≡ true) × (v ≡ 0)) ⊎ (((v == 0) ≡ false) × (v ≢ 0)) → v ≡ 0
  zero_by v c (inl h) = h.1
  zero_by v c (inr h) = absurd (true≢false (sym c ∙ h.0))

  climbs_count : (steps v : ℕ) → v < length nodes → climbs steps nodes v ≡ true → count v (visits nodes room 0) ≤ 1
  climbs_count zero v within c = top_count v (zero_by v c (eqb_tells v 0))
  climbs_count (suc steps) v within c = climbs_by steps v within (climbs_count steps) c (eqb_tells v 0)

  once : (v : ℕ) → v < length nodes → count v (visits nodes room 0) ≤ 1
  once v within = climbs_count (length nodes) v within (tree.each v within).1

-- ---- all of them are nodes

below_both : (n : ℕ) (xs ys : List ℕ) → Below n xs → Below n ys → Below n (xs ++ ys)
below_both n [] ys h g = g
below_both n (x ∷ xs) ys h g = (h.0, below_both n xs ys h.1 g)

children_sound : (bound signals : ℕ) (nodes : List Node) → are_nodes bound signals nodes ≡ true → (u : ℕ) → are_spots bound signals (children_of nodes u) ≡ true
children_sound bound signals [] h zero = refl
children_sound bound signals [] h (suc u) = refl
children_sound bound signals (node ∷ nodes) h zero = (and_parts (are_spots bound signals node.children) (are_nodes bound signals nodes) h).0
children_sound bound signals (node ∷ nodes) h (suc u) = children_sound bound signals nodes (and_parts (are_spots bound signals node.children) (are_nodes bound signals nodes) h).1 u

spot_below : (k bound : ℕ) → nat_lt k bound ≡ true → k < bound
spot_below k bound h = grind (arith, nat_tests)

below_inside : (bound signals : ℕ) (visit : ℕ → List ℕ) → ((u : ℕ) → u < bound → Below bound (visit u)) → (children : Children) → are_spots bound signals children ≡ true
    → Below bound (visits_in visit children)
below_inside bound signals visit each [] e = tt
below_inside bound signals visit each ((name, Inner node) ∷ children) e =
    let p = and_parts (nat_lt node bound) (are_spots bound signals children) e in
    below_both bound (visit node) (visits_in visit children) (each node (spot_below node bound p.0)) (below_inside bound signals visit each children p.1)
below_inside bound signals visit each ((name, Sig signal) ∷ children) e =
    below_inside bound signals visit each children (and_parts (is_spot bound signals (Sig signal)) (are_spots bound signals children) e).1
below_inside bound signals visit each ((name, Words first low count) ∷ children) e =
    below_inside bound signals visit each children (and_parts (is_spot bound signals (Words first low count)) (are_spots bound signals children) e).1

visits_below : (bound signals : ℕ) (nodes : List Node) → are_nodes bound signals nodes ≡ true → (room u : ℕ) → u < bound → Below bound (visits nodes room u)
visits_below bound signals nodes sound zero u h = tt
visits_below bound signals nodes sound (suc room) u h =
    (h, below_inside bound signals (visits nodes room) (visits_below bound signals nodes sound room) (children_of nodes u) (children_sound bound signals nodes sound u))

pub few_begin : (nodes : List Node) (signals : ℕ) → IsTree nodes → are_nodes (length nodes) signals nodes ≡ true → (room : ℕ) (name : List ℕ) → begins (instance_of nodes room name 0) ≤ length nodes
few_begin nodes signals tree sound room name =
    let h = few (length nodes) (visits nodes room 0) (visits_below (length nodes) signals nodes sound room 0 tree.root) (once nodes tree room) in
    let e = begins_is nodes room name 0 in omega (arith, h, e)
