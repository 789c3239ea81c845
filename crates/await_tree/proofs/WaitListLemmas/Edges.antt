-- The counted keys of a tree that has begun are edges, and a key that was served is awaited on only where it is one.
use Rattle.std.proofs.Common.{◌≡◌, ℕ, zero, suc, Bool, true, false, List, [], ◌∷◌, ◌++◌, refl, sym, ap, ◌∙◌}
use Rattle.std.specs.Prelude.{Option, None, Some, if◌then◌else◌, ◌||◌, ◌&&◌}
use Rattle.gpi.specs.Keys.{among, same_key}
use Rattle.gpi.specs.declared.types.Key.{Key}
use Rattle.gpi.specs.declared.types.Key.TheVariants.{At}
use Rattle.py_value.specs.declared.trigger.LockNo.{LockNo}
use Rattle.py_value.specs.declared.trigger.TaskNo.{TaskNo}
use Rattle.py_value.specs.Trigger as trigger
use Rattle.py_value.specs.Trigger.{Trig}
use Rattle.await_tree.specs.declared.cause.Awaited.{Awaited}
use Rattle.await_tree.specs.declared.cause.Awaited.TheVariants as awaited
use Rattle.await_tree.specs.declared.cause.Cause.{Cause}
use Rattle.await_tree.specs.declared.cause.Cause.TheVariants as cause
use Rattle.await_tree.specs.declared.finish.Finish.{Finish}
use Rattle.await_tree.specs.declared.finish.Finish.TheVariants as finish
use Rattle.await_tree.specs.Begin.{Facts, begin, begin_until, begin_all, begun, all_begun, then_begun, leaf_begun, join_begun, is_set, is_held, ended, with_held}
use Rattle.await_tree.specs.Check.{all_trees, edge, form_tree, only, tree_of}
use Rattle.await_tree.specs.Fire.{fire, fire_all, grant, grant_one, is_same, is_among, reach_of, reached, edge_passed, awaits}
use Rattle.await_tree.specs.Steps.{rest_of}
use Rattle.await_tree.specs.Tree as tree
use Rattle.await_tree.specs.Tree.{Tree, Trees, Over, Leaf, Cycles, First, Combine, Limit, NoTree, Then, leaves, all_leaves, is_over, is_faulted, or_left, first_over, first_faulted, are_over, first_by, combine_by, limit_by}
use Rattle.await_tree.proofs.AmongLaws.{among_more}
use Rattle.await_tree.proofs.Few.{IsBare, first_bare, fault_bare as bare_fault}
use Rattle.await_tree.proofs.Within.{leaves_only_go}
use Rattle.await_tree.specs.Laws.{IsWithin}
use Rattle.await_tree.specs.Steps.{step_of}
use Rattle.await_tree.specs.declared.cause.Step.{Step}
use Rattle.await_tree.specs.declared.cause.Step.TheVariants.{Still, Done}
use Rattle.await_tree.specs.WaitList.Begun.{IsBegun}
use Rattle.await_tree.specs.WaitList.Waiting.{Waiting, all_waiting, keys_of, left_of, still_waiting, tree_keys}
use Rattle.await_tree.specs.WaitList.Parts.{AreWithin}
use Rattle.await_tree.specs.WaitList.Edges.{has_edges, have_edges, is_edge}
use Rattle.await_tree.proofs.WaitListLemmas.Members.{and_left, and_right, among_append, among_leaves, keys_of_append, or_no, same_is, within_both, within_self, within_through}

-- ---- what the test says

abbrev pub IsEdge : Key → Type 0
IsEdge key = is_edge key ≡ true

abbrev mutual
  pub HasEdges : Tree → Type 0
  HasEdges (Over f) = Unit {0}
  HasEdges (Leaf on trig) = Unit {0}
  HasEdges (Cycles key left trig) = IsEdge key
  HasEdges (First ts) = HaveEdges ts
  HasEdges (Combine trig ts) = HaveEdges ts
  HasEdges (Limit due t) = HasEdges t

  pub HaveEdges : Trees → Type 0
  HaveEdges NoTree = Unit {0}
  HaveEdges (Then t ts) = HasEdges t × HaveEdges ts

both_true : (a b : Bool) → a ≡ true → b ≡ true → (a && b) ≡ true
both_true true b h k = k
both_true false b h k = absurd (cc)

mutual
  pub tested : (t : Tree) → HasEdges t → has_edges t ≡ true
  tested (Over f) h = refl
  tested (Leaf on trig) h = refl
  tested (Cycles key left trig) h = h
  tested (First ts) h = all_tested ts h
  tested (Combine trig ts) h = all_tested ts h
  tested (Limit due t) h = tested t h

  all_tested : (ts : Trees) → HaveEdges ts → have_edges ts ≡ true
  all_tested NoTree h = refl
  all_tested (Then t ts) h = both_true (has_edges t) (have_edges ts) (tested t h.0) (all_tested ts h.1)

mutual
  pub shown : (t : Tree) → has_edges t ≡ true → HasEdges t
  shown (Over f) h = tt
  shown (Leaf on trig) h = tt
  shown (Cycles key left trig) h = h
  shown (First ts) h = all_shown ts h
  shown (Combine trig ts) h = all_shown ts h
  shown (Limit due t) h = shown t h

  all_shown : (ts : Trees) → have_edges ts ≡ true → HaveEdges ts
  all_shown NoTree h = tt
  all_shown (Then t ts) h = (shown t (and_left (has_edges t) (have_edges ts) h), all_shown ts (and_right (has_edges t) (have_edges ts) h))

-- ---- what is made of parts

abbrev IsEdgedPart : Option Tree → Type 0
IsEdgedPart None = Unit {0}
IsEdgedPart (Some t) = HasEdges t

left_part : (b : Bool) (t : Tree) (other : Option Tree) → HasEdges t → IsEdgedPart other → IsEdgedPart (or_left b t other)
left_part true t other h k = h
left_part false t other h k = k

over_part : (ts : Trees) → HaveEdges ts → IsEdgedPart (first_over ts)
over_part NoTree h = tt
over_part (Then t ts) h = left_part (is_over t) t (first_over ts) h.0 (over_part ts h.1)

fault_part : (ts : Trees) → HaveEdges ts → IsEdgedPart (first_faulted ts)
fault_part NoTree h = tt
fault_part (Then t ts) h = left_part (is_faulted t) t (first_faulted ts) h.0 (fault_part ts h.1)

first_edges : (o : Option Tree) (ts : Trees) → IsEdgedPart o → HaveEdges ts → HasEdges (first_by o ts)
first_edges None ts k h = h
first_edges (Some t) ts k h = k

combine_edges : (o : Option Tree) (all : Bool) (trig : Trig) (ts : Trees) → IsEdgedPart o → HaveEdges ts → HasEdges (combine_by o all trig ts)
combine_edges (Some t) all trig ts k h = k
combine_edges None true trig ts k h = tt
combine_edges None false trig ts k h = h

limit_edges : (over late : Bool) (due : ℕ) (t : Tree) → HasEdges t → HasEdges (limit_by over late due t)
limit_edges true late due t h = h
limit_edges false true due t h = tt
limit_edges false false due t h = h

first_of_edges : (ts : Trees) → HaveEdges ts → HasEdges (tree.first_of ts)
first_of_edges ts h = first_edges (first_over ts) ts (over_part ts h) h

combine_of_edges : (trig : Trig) (ts : Trees) → HaveEdges ts → HasEdges (tree.combine_of trig ts)
combine_of_edges trig ts h = combine_edges (first_faulted ts) (are_over ts) trig ts (fault_part ts h) h

limit_of_edges : (late : Bool) (due : ℕ) (t : Tree) → HasEdges t → HasEdges (tree.limit_of late due t)
limit_of_edges late due t h = limit_edges (is_over t) late due t h

leaf_edges : (b : Bool) (f : Finish) (on : Awaited) (trig : Trig) → HasEdges (if b then Over f else Leaf on trig)
leaf_edges true f on trig = tt
leaf_edges false f on trig = tt

passed_edges : (left : ℕ) (key : Key) (trig : Trig) → IsEdge key → HasEdges (edge_passed left key trig)
passed_edges zero key trig h = tt
passed_edges (suc zero) key trig h = tt
passed_edges (suc (suc left)) key trig h = h

cycles_edges : (b : Bool) (left : ℕ) (key : Key) (trig : Trig) → IsEdge key → HasEdges (if b then edge_passed left key trig else Cycles key left trig)
cycles_edges true left key trig h = passed_edges left key trig h
cycles_edges false left key trig h = h

-- ---- a tree keeps its edges

mutual
  pub fire_edges : (c : Cause) (t : Tree) → HasEdges t → HasEdges (fire c t)
  fire_edges c (Over f) h = tt
  fire_edges c (Leaf on trig) h = leaf_edges (is_same (reach_of c) on) (reached c trig) on trig
  fire_edges c (Cycles key left trig) h = cycles_edges (is_same (reach_of c) (awaited.Key key)) left key trig h
  fire_edges c (First ts) h = first_of_edges (fire_all c ts) (fires_edges c ts h)
  fire_edges c (Combine trig ts) h = combine_of_edges trig (fire_all c ts) (fires_edges c ts h)
  fire_edges c (Limit due t) h = limit_of_edges (is_same (reach_of c) (awaited.Key (At due))) due (fire c t) (fire_edges c t h)

  fires_edges : (c : Cause) (ts : Trees) → HaveEdges ts → HaveEdges (fire_all c ts)
  fires_edges c NoTree h = tt
  fires_edges c (Then t ts) h = (fire_edges c t h.0, fires_edges c ts h.1)

one_edges : (b : Bool) (t u : Tree) (ts us : Trees) → HasEdges t → HasEdges u → HaveEdges ts → HaveEdges us → HaveEdges (if b then Then u ts else Then t us)
one_edges true t u ts us h k l m = (k, l)
one_edges false t u ts us h k l m = (h, m)

mutual
  pub grant_edges : (l : LockNo) (t : Tree) → HasEdges t → HasEdges (grant l t)
  grant_edges l (Over f) h = tt
  grant_edges l (Leaf on trig) h = leaf_edges (is_same (awaited.Lock l) on) (finish.Reached trig) on trig
  grant_edges l (Cycles key left trig) h = h
  grant_edges l (First ts) h = first_of_edges (grant_one l ts) (grants_edges l ts h)
  grant_edges l (Combine trig ts) h = combine_of_edges trig (grant_one l ts) (grants_edges l ts h)
  grant_edges l (Limit due t) h = limit_of_edges false due (grant l t) (grant_edges l t h)

  grants_edges : (l : LockNo) (ts : Trees) → HaveEdges ts → HaveEdges (grant_one l ts)
  grants_edges l NoTree h = tt
  grants_edges l (Then t ts) h = one_edges (awaits (awaited.Lock l) t) t (grant l t) ts (grant_one l ts) h.0 (grant_edges l t h.0) h.1 (grants_edges l ts h.1)

-- ---- a tree begins with edges

edge_is : (rising : Bool) (sig : _) → IsEdge (edge rising sig)
edge_is true sig = refl
edge_is false sig = refl

only_edges : (ts : Trees) → HaveEdges ts → HasEdges (only ts)
only_edges NoTree h = tt
only_edges (Then t ts) h = h.0

mutual
  tree_edges : (t : Trig) (now : ℕ) → HasEdges (tree_of t now)
  tree_edges (trigger.Made id form) now = form_edges form (trigger.Made id form) now

  form_edges : (form : trigger.Form) (trig : Trig) (now : ℕ) → HasEdges (form_tree form trig now)
  form_edges (trigger.Time steps) trig now = tt
  form_edges (trigger.Rise sig) trig now = tt
  form_edges (trigger.Fall sig) trig now = tt
  form_edges (trigger.Change sig) trig now = tt
  form_edges trigger.ReadWrite trig now = tt
  form_edges trigger.ReadOnly trig now = tt
  form_edges trigger.NextStep trig now = tt
  form_edges (trigger.Cycles sig count rising) trig now = edge_is rising sig
  form_edges (trigger.Event event) trig now = tt
  form_edges (trigger.Lock lock) trig now = tt
  form_edges (trigger.Join task) trig now = tt
  form_edges (trigger.First ts) trig now = all_edges ts now
  form_edges (trigger.Combine ts) trig now = all_edges ts now
  form_edges (trigger.Limit inner steps) trig now = only_edges (all_trees inner now) (all_edges inner now)

  all_edges : (ts : trigger.Trigs) (now : ℕ) → HaveEdges (all_trees ts now)
  all_edges trigger.NoTrig now = tt
  all_edges (trigger.Then t ts) now = (tree_edges t now, all_edges ts now)

lock_edges : (b : Bool) (l : LockNo) (trig : Trig) (f : Facts)
    → HasEdges (if b then begun (Leaf (awaited.Lock l) trig) f else begun (Over (finish.Reached trig)) (with_held l f)).tree
lock_edges true l trig f = tt
lock_edges false l trig f = tt

join_edges : (o : Option Bool) (task : TaskNo) (trig : Trig) → HasEdges (join_begun o task trig)
join_edges None task trig = tt
join_edges (Some failed) task trig = tt

leaf_begun_edges : (on : Awaited) (trig : Trig) (f : Facts) → HasEdges (leaf_begun on trig f).tree
leaf_begun_edges (awaited.Key k) trig f = tt
leaf_begun_edges (awaited.Event e) trig f = leaf_edges (is_set e f) (finish.Reached trig) (awaited.Event e) trig
leaf_begun_edges (awaited.Lock l) trig f = lock_edges (is_held l f) l trig f
leaf_begun_edges (awaited.Join task) trig f = join_edges (ended task f) task trig

until_edges : (b : Bool) (u : Tree) (ts us : Trees) (g k : Facts) → HasEdges u → HaveEdges ts → HaveEdges us
    → HaveEdges (if b then all_begun (Then u ts) g else then_begun u (all_begun us k)).trees
until_edges true u ts us g k h l m = (h, l)
until_edges false u ts us g k h l m = (h, m)

mutual
  begin_edges : (t : Tree) (f : Facts) → HasEdges t → HasEdges (begin t f).tree
  begin_edges (Over x) f h = tt
  begin_edges (Leaf on trig) f h = leaf_begun_edges on trig f
  begin_edges (Cycles key left trig) f h = h
  begin_edges (First ts) f h = first_of_edges (begin_until ts f).trees (untils_edges ts f h)
  begin_edges (Combine trig ts) f h = combine_of_edges trig (begin_all ts f).trees (begins_edges ts f h)
  begin_edges (Limit due t) f h = limit_of_edges false due (begin t f).tree (begin_edges t f h)

  untils_edges : (ts : Trees) (f : Facts) → HaveEdges ts → HaveEdges (begin_until ts f).trees
  untils_edges NoTree f h = tt
  untils_edges (Then t ts) f h =
      until_edges (is_over (begin t f).tree) (begin t f).tree ts (begin_until ts (begin t f).facts).trees (begin t f).facts (begin_until ts (begin t f).facts).facts
      (begin_edges t f h.0) h.1 (untils_edges ts (begin t f).facts h.1)

  begins_edges : (ts : Trees) (f : Facts) → HaveEdges ts → HaveEdges (begin_all ts f).trees
  begins_edges NoTree f h = tt
  begins_edges (Then t ts) f h = (begin_edges t f h.0, begins_edges ts (begin t f).facts h.1)

pub begun_edges : (t : Tree) → IsBegun t → has_edges t ≡ true
begun_edges t b = tested t (rw b.is (begin_edges (tree_of b.trig b.now) b.facts (tree_edges b.trig b.now)))

rest_edges : (t : Tree) → HasEdges t → HasEdges (rest_of t)
rest_edges (Over f) h = tt
rest_edges (Leaf on trig) h = h
rest_edges (Cycles key left trig) h = h
rest_edges (First ts) h = h
rest_edges (Combine trig ts) h = h
rest_edges (Limit due t) h = h

pub fired_edges : (c : Cause) (t u : Tree) → u ≡ rest_of (fire c t) → has_edges t ≡ true → has_edges u ≡ true
fired_edges c t u e h = tested u (rw e (rest_edges (fire c t) (fire_edges c t (shown t h))))

pub granted_edges : (l : LockNo) (t u : Tree) → u ≡ rest_of (grant l t) → has_edges t ≡ true → has_edges u ≡ true
granted_edges l t u e h = tested u (rw e (rest_edges (grant l t) (grant_edges l t (shown t h))))

-- ---- a key that was served is awaited on only where it is an edge

abbrev AreOnEdge : Key → List Awaited → Type 0
AreOnEdge k xs = is_among (awaited.Key k) xs ≡ true → IsEdge k

none_on : (k : Key) (xs : List Awaited) → xs ≡ [] → AreOnEdge k xs
none_on k xs e = λ (h : is_among (awaited.Key k) xs ≡ true). absurd (let z : false ≡ true = sym (ap (is_among (awaited.Key k)) e) ∙ h in cc)

first_on : (k : Key) (o : Option Tree) (ts : Trees) → IsBare o → AreOnEdge k (all_leaves ts) → AreOnEdge k (leaves (first_by o ts))
first_on k (Some t) ts b h = none_on k (leaves t) b
first_on k None ts b h = h

combine_on : (k : Key) (o : Option Tree) (all : Bool) (trig : Trig) (ts : Trees) → IsBare o → AreOnEdge k (all_leaves ts) → AreOnEdge k (leaves (combine_by o all trig ts))
combine_on k (Some t) all trig ts b h = none_on k (leaves t) b
combine_on k None true trig ts b h = none_on k [] refl
combine_on k None false trig ts b h = h

both_on : (k : Key) (xs ys : List Awaited) → AreOnEdge k xs → AreOnEdge k ys → AreOnEdge k (xs ++ ys)
both_on k xs ys h e = λ (m : is_among (awaited.Key k) (xs ++ ys) ≡ true). decided (is_among (awaited.Key k) xs) refl m
  where
    decided : (b : Bool) → is_among (awaited.Key k) xs ≡ b → is_among (awaited.Key k) (xs ++ ys) ≡ true → IsEdge k
    decided true d m = h d
    decided false d m = e (ap (λ (b : Bool). b || is_among (awaited.Key k) ys) (sym d) ∙ among_more (awaited.Key k) xs ys ∙ m)

last_on : (k : Key) (on : Awaited) → is_same (awaited.Key k) on ≡ false → AreOnEdge k (on ∷ [])
last_on k on e = λ (h : is_among (awaited.Key k) (on ∷ []) ≡ true). absurd (let z : false ≡ true = sym (or_no (is_same (awaited.Key k) on) ∙ e) ∙ h in cc)

limit_on : (k : Key) (over late : Bool) (due : ℕ) (t : Tree) → is_same (awaited.Key k) (awaited.Key (At due)) ≡ late → AreOnEdge k (leaves t) → AreOnEdge k (leaves (limit_by over late due t))
limit_on k true late due t e h = h
limit_on k false true due t e h = none_on k [] refl
limit_on k false false due t e h = both_on k (leaves t) (awaited.Key (At due) ∷ []) h (last_on k (awaited.Key (At due)) e)

leaf_on : (k : Key) (b : Bool) (f : Finish) (on : Awaited) (trig : Trig) → is_same (awaited.Key k) on ≡ b → AreOnEdge k (leaves (if b then Over f else Leaf on trig))
leaf_on k true f on trig e = none_on k [] refl
leaf_on k false f on trig e = last_on k on e

own_on : (k : Key) (own : Key) → same_key k own ≡ true → IsEdge own → AreOnEdge k (awaited.Key own ∷ [])
own_on k own e h = λ (m : is_among (awaited.Key k) (awaited.Key own ∷ []) ≡ true). rw (same_is k own e) h

passed_on : (k : Key) (left : ℕ) (own : Key) (trig : Trig) → same_key k own ≡ true → IsEdge own → AreOnEdge k (leaves (edge_passed left own trig))
passed_on k zero own trig e h = none_on k [] refl
passed_on k (suc zero) own trig e h = none_on k [] refl
passed_on k (suc (suc left)) own trig e h = own_on k own e h

cycles_on : (k : Key) (b : Bool) (left : ℕ) (own : Key) (trig : Trig) → is_same (awaited.Key k) (awaited.Key own) ≡ b → IsEdge own
    → AreOnEdge k (leaves (if b then edge_passed left own trig else Cycles own left trig))
cycles_on k true left own trig e h = passed_on k left own trig e h
cycles_on k false left own trig e h = last_on k (awaited.Key own) e

mutual
  fire_on : (k : Key) (t : Tree) → HasEdges t → AreOnEdge k (leaves (fire (cause.Key k) t))
  fire_on k (Over f) h = none_on k [] refl
  fire_on k (Leaf on trig) h = leaf_on k (is_same (awaited.Key k) on) (reached (cause.Key k) trig) on trig refl
  fire_on k (Cycles own left trig) h = cycles_on k (is_same (awaited.Key k) (awaited.Key own)) left own trig refl h
  fire_on k (First ts) h = first_on k (first_over (fire_all (cause.Key k) ts)) (fire_all (cause.Key k) ts) (first_bare (fire_all (cause.Key k) ts)) (fires_on k ts h)
  fire_on k (Combine trig ts) h =
      combine_on k (first_faulted (fire_all (cause.Key k) ts)) (are_over (fire_all (cause.Key k) ts)) trig (fire_all (cause.Key k) ts) (bare_fault (fire_all (cause.Key k) ts))
      (fires_on k ts h)
  fire_on k (Limit due t) h = limit_on k (is_over (fire (cause.Key k) t)) (is_same (awaited.Key k) (awaited.Key (At due))) due (fire (cause.Key k) t) refl (fire_on k t h)

  fires_on : (k : Key) (ts : Trees) → HaveEdges ts → AreOnEdge k (all_leaves (fire_all (cause.Key k) ts))
  fires_on k NoTree h = none_on k [] refl
  fires_on k (Then t ts) h = both_on k (leaves (fire (cause.Key k) t)) (all_leaves (fire_all (cause.Key k) ts)) (fire_on k t h.0) (fires_on k ts h.1)

-- ---- the same of waiting tasks

abbrev pub AreEdged : List Waiting → Type 0
AreEdged [] = Unit {0}
AreEdged (w ∷ ws) = HasEdges w.tree × AreEdged ws

left_edged : (task : TaskNo) (t : Tree) (step : Step) (ws : List Waiting) → HasEdges t → AreEdged ws → AreEdged (left_of task t step ++ ws)
left_edged task t Still ws h k = (h, k)
left_edged task t (Done given) ws h k = k

pub still_edged : (c : Cause) (ws : List Waiting) → AreEdged ws → AreEdged (still_waiting c ws)
still_edged c [] h = tt
still_edged c (w ∷ ws) h = left_edged w.task (fire c w.tree) (step_of (fire c w.tree)) (still_waiting c ws) (fire_edges c w.tree h.0) (still_edged c ws h.1)

-- what waits on is within what waited
pub tree_within : (t u : Tree) → IsWithin (leaves u) (leaves t) → AreWithin (tree_keys u) (tree_keys t)
tree_within t u h = λ (k : Key) (m : among k (tree_keys u) ≡ true). among_leaves k (leaves t) ∙ h (awaited.Key k) (sym (among_leaves k (leaves u)) ∙ m)

pub left_within : (task : TaskNo) (t u : Tree) (step : Step) → IsWithin (leaves u) (leaves t) → AreWithin (keys_of (left_of task u step)) (tree_keys t)
left_within task t u Still h = λ (k : Key) (m : among k (tree_keys u ++ []) ≡ true). tree_within t u h k (sym (among_append k (tree_keys u) [] ∙ or_no (among k (tree_keys u))) ∙ m)
left_within task t u (Done given) h = λ (k : Key) (m : among k [] ≡ true). absurd (cc)

pub keys_go : (c : Cause) (ws : List Waiting) → AreWithin (keys_of (still_waiting c ws)) (keys_of ws)
keys_go c [] = within_self []
keys_go c (w ∷ ws) =
    rw (keys_of_append (left_of w.task (fire c w.tree) (step_of (fire c w.tree))) (still_waiting c ws))
    (within_both (keys_of (left_of w.task (fire c w.tree) (step_of (fire c w.tree)))) (tree_keys w.tree) (keys_of (still_waiting c ws)) (keys_of ws)
    (left_within w.task w.tree (fire c w.tree) (step_of (fire c w.tree)) (leaves_only_go.fires c w.tree)) (keys_go c ws))

pub all_go : (ks : List Key) (ws : List Waiting) → AreWithin (keys_of (all_waiting ks ws)) (keys_of ws)
all_go [] ws = within_self (keys_of ws)
all_go (k ∷ ks) ws =
    within_through (keys_of (all_waiting ks (still_waiting (cause.Key k) ws))) (keys_of (still_waiting (cause.Key k) ws)) (keys_of ws)
    (all_go ks (still_waiting (cause.Key k) ws)) (keys_go (cause.Key k) ws)

left_on : (k : Key) (task : TaskNo) (t : Tree) (step : Step) → AreOnEdge k (leaves t) → among k (keys_of (left_of task t step)) ≡ true → IsEdge k
left_on k task t Still h m = h (sym (among_leaves k (leaves t)) ∙ sym (among_append k (tree_keys t) [] ∙ or_no (among k (tree_keys t))) ∙ m)
left_on k task t (Done given) h m = absurd (cc)

pub served_on : (k : Key) (ws : List Waiting) → AreEdged ws → among k (keys_of (still_waiting (cause.Key k) ws)) ≡ true → IsEdge k
served_on k [] h m = absurd (cc)
served_on k (w ∷ ws) h m =
    decided (among k (keys_of (left_of w.task (fire (cause.Key k) w.tree) (step_of (fire (cause.Key k) w.tree))))) refl (λ d. served_on k ws h.1 d)
    (sym (ap (among k) (keys_of_append (left_of w.task (fire (cause.Key k) w.tree) (step_of (fire (cause.Key k) w.tree))) (still_waiting (cause.Key k) ws))
    ∙ among_append k (keys_of (left_of w.task (fire (cause.Key k) w.tree) (step_of (fire (cause.Key k) w.tree)))) (keys_of (still_waiting (cause.Key k) ws))) ∙ m)
  where
    decided : (b : Bool) → among k (keys_of (left_of w.task (fire (cause.Key k) w.tree) (step_of (fire (cause.Key k) w.tree)))) ≡ b
        → (among k (keys_of (still_waiting (cause.Key k) ws)) ≡ true → IsEdge k)
        → (among k (keys_of (left_of w.task (fire (cause.Key k) w.tree) (step_of (fire (cause.Key k) w.tree)))) || among k (keys_of (still_waiting (cause.Key k) ws))) ≡ true → IsEdge k
    decided true e more d = left_on k w.task (fire (cause.Key k) w.tree) (step_of (fire (cause.Key k) w.tree)) (fire_on k w.tree h.0) e
    decided false e more d = more (ap (λ (b : Bool). b || among k (keys_of (still_waiting (cause.Key k) ws))) (sym e) ∙ d)

-- a key that was served and is awaited on is an edge
pub all_on : (ks : List Key) (ws : List Waiting) (k : Key) → AreEdged ws → among k ks ≡ true → among k (keys_of (all_waiting ks ws)) ≡ true → IsEdge k
all_on [] ws k h m a = absurd (cc)
all_on (j ∷ ks) ws k h m a = decided (same_key k j) refl (λ n. all_on ks (still_waiting (cause.Key j) ws) k (still_edged (cause.Key j) ws h) n a)
  where
    decided : (b : Bool) → same_key k j ≡ b → (among k ks ≡ true → IsEdge k) → IsEdge k
    decided true s more =
        let e : k ≡ j = same_is k j s in
        served_on k ws h (ap (λ (i : Key). among k (keys_of (still_waiting (cause.Key i) ws))) e ∙ all_go ks (still_waiting (cause.Key j) ws) k a)
    decided false s more = more (ap (λ (b : Bool). b || among k ks) (sym s) ∙ m)
