-- A tree has no more waiting leaves than the trigger has leaves, and never more than it had before.
use Rattle.std.proofs.Common.{◌≡◌, ℕ, zero, suc, ◌+◌, ◌≤◌, Bool, true, false, [], ◌∷◌, length, refl, ap, arith, length-append}
use Rattle.std.specs.Prelude.{Option, None, Some, if◌then◌else◌, IsTrue, ◌&&◌, nat_le}
use Rattle.gpi.specs.declared.types.Key.{Key}
use Rattle.gpi.specs.declared.types.Key.TheVariants.{At}
use Rattle.py_value.specs.declared.trigger.LockNo.{LockNo}
use Rattle.py_value.specs.Trigger as trigger
use Rattle.await_tree.specs.declared.cause.Awaited.{Awaited}
use Rattle.await_tree.specs.declared.cause.Awaited.TheVariants as awaited
use Rattle.await_tree.specs.declared.cause.Cause.{Cause}
use Rattle.await_tree.specs.declared.finish.Finish.{Finish}
use Rattle.await_tree.specs.declared.finish.Finish.TheVariants as finish
use Rattle.await_tree.specs.Tree as tree
use Rattle.await_tree.specs.Tree.{Tree, Trees, Over, Leaf, Cycles, First, Combine, Limit, NoTree, Then, leaves, all_leaves, is_over, is_faulted, or_left, first_over, first_faulted, are_over, first_by, combine_by, limit_by}
use Rattle.await_tree.specs.Begin.{Facts, Begun, begin, begin_until, begin_all, begun, all_begun, then_begun, leaf_begun, join_begun, is_set, is_held, ended, with_held}
use Rattle.await_tree.specs.Fire.{fire, fire_all, grant, grant_one, is_same, reach_of, reached, edge_passed, awaits}
use Rattle.await_tree.specs.Check.{tree_of, form_tree, all_trees}
use Rattle.await_tree.specs.Steps.{rest_of}
use Rattle.await_tree.specs.Laws.{LeavesAreFew}

abbrev few : Tree → ℕ
few t = length (leaves t)

abbrev few_all : Trees → ℕ
few_all ts = length (all_leaves ts)

-- ---- parts that are done have none

pub over_bare : (t : Tree) → is_over t ≡ true → leaves t ≡ []
over_bare (Over f) h = refl
over_bare (Leaf on trig) h = cc
over_bare (Cycles key left trig) h = cc
over_bare (First ts) h = cc
over_bare (Combine trig ts) h = cc
over_bare (Limit due t) h = cc

faulted_bare : (t : Tree) → is_faulted t ≡ true → leaves t ≡ []
faulted_bare (Over f) h = refl
faulted_bare (Leaf on trig) h = cc
faulted_bare (Cycles key left trig) h = cc
faulted_bare (First ts) h = cc
faulted_bare (Combine trig ts) h = cc
faulted_bare (Limit due t) h = cc

abbrev pub IsBare : Option Tree → Type 0
IsBare None = Unit {0}
IsBare (Some t) = leaves t ≡ []

left_bare : (b : Bool) (t : Tree) (other : Option Tree) → (b ≡ true → leaves t ≡ []) → IsBare other → IsBare (or_left b t other)
left_bare true t other h k = h refl
left_bare false t other h k = k

pub first_bare : (ts : Trees) → IsBare (first_over ts)
first_bare NoTree = tt
first_bare (Then t ts) = left_bare (is_over t) t (first_over ts) (over_bare t) (first_bare ts)

pub fault_bare : (ts : Trees) → IsBare (first_faulted ts)
fault_bare NoTree = tt
fault_bare (Then t ts) = left_bare (is_faulted t) t (first_faulted ts) (faulted_bare t) (fault_bare ts)

first_few : (o : Option Tree) (ts : Trees) → IsBare o → few (first_by o ts) ≤ few_all ts
first_few (Some t) ts h = rw h (omega arith)
first_few None ts h = omega arith

combine_few : (o : Option Tree) (all : Bool) (trig : trigger.Trig) (ts : Trees) → IsBare o → few (combine_by o all trig ts) ≤ few_all ts
combine_few (Some t) all trig ts h = rw h (omega arith)
combine_few None true trig ts h = omega arith
combine_few None false trig ts h = omega arith

limit_few : (over late : Bool) (due : ℕ) (t : Tree) → few (limit_by over late due t) ≤ few t + 1
limit_few true late due t = omega arith
limit_few false true due t = omega arith
limit_few false false due t = omega (arith, length-append (leaves t) (awaited.Key (At due) ∷ []))

limit_one : (due : ℕ) (t : Tree) → few (Limit due t) ≡ few t + 1
limit_one due t = length-append (leaves t) (awaited.Key (At due) ∷ [])

then_few : (t u : Tree) (ts us : Trees) → few u ≤ few t → few_all us ≤ few_all ts → few_all (Then u us) ≤ few_all (Then t ts)
then_few t u ts us h k = omega (arith, length-append (leaves t) (all_leaves ts), length-append (leaves u) (all_leaves us))

first_parts : (ts us : Trees) → few_all us ≤ few_all ts → few (tree.first_of us) ≤ few_all ts
first_parts ts us h = let k : few (tree.first_of us) ≤ few_all us = first_few (first_over us) us (first_bare us) in omega arith

combine_parts : (trig : trigger.Trig) (ts us : Trees) → few_all us ≤ few_all ts → few (tree.combine_of trig us) ≤ few_all ts
combine_parts trig ts us h = let k : few (tree.combine_of trig us) ≤ few_all us = combine_few (first_faulted us) (are_over us) trig us (fault_bare us) in omega arith

limit_part : (late : Bool) (due : ℕ) (t u : Tree) → few u ≤ few t → few (tree.limit_of late due u) ≤ few (Limit due t)
limit_part late due t u h =
    let k : few (tree.limit_of late due u) ≤ few u + 1 = limit_few (is_over u) late due u in
    let e : few (Limit due t) ≡ few t + 1 = limit_one due t in
    omega arith

-- ---- one leaf

leaf_few : (b : Bool) (f : Finish) (on : Awaited) (trig : trigger.Trig) → few (if b then Over f else Leaf on trig) ≤ 1
leaf_few true f on trig = omega arith
leaf_few false f on trig = omega arith

edge_few : (left : ℕ) (key : Key) (trig : trigger.Trig) → few (edge_passed left key trig) ≤ 1
edge_few zero key trig = omega arith
edge_few (suc zero) key trig = omega arith
edge_few (suc (suc left)) key trig = omega arith

cycles_few : (b : Bool) (left : ℕ) (key : Key) (trig : trigger.Trig) → few (if b then edge_passed left key trig else Cycles key left trig) ≤ 1
cycles_few true left key trig = edge_few left key trig
cycles_few false left key trig = omega arith

-- ---- fire

mutual
  fire_few : (c : Cause) (t : Tree) → few (fire c t) ≤ few t
  fire_few c (Over f) = omega arith
  fire_few c (Leaf on trig) = leaf_few (is_same (reach_of c) on) (reached c trig) on trig
  fire_few c (Cycles key left trig) = cycles_few (is_same (reach_of c) (awaited.Key key)) left key trig
  fire_few c (First ts) = first_parts ts (fire_all c ts) (fires_few c ts)
  fire_few c (Combine trig ts) = combine_parts trig ts (fire_all c ts) (fires_few c ts)
  fire_few c (Limit due t) = limit_part (is_same (reach_of c) (awaited.Key (At due))) due t (fire c t) (fire_few c t)

  fires_few : (c : Cause) (ts : Trees) → few_all (fire_all c ts) ≤ few_all ts
  fires_few c NoTree = omega arith
  fires_few c (Then t ts) = then_few t (fire c t) ts (fire_all c ts) (fire_few c t) (fires_few c ts)

-- ---- grant

one_few : (b : Bool) (t u : Tree) (ts us : Trees) → few u ≤ few t → few_all us ≤ few_all ts → few_all (if b then Then u ts else Then t us) ≤ few_all (Then t ts)
one_few true t u ts us h k = then_few t u ts ts h (omega arith)
one_few false t u ts us h k = then_few t t ts us (omega arith) k

mutual
  grant_few : (l : LockNo) (t : Tree) → few (grant l t) ≤ few t
  grant_few l (Over f) = omega arith
  grant_few l (Leaf on trig) = leaf_few (is_same (awaited.Lock l) on) (finish.Reached trig) on trig
  grant_few l (Cycles key left trig) = omega arith
  grant_few l (First ts) = first_parts ts (grant_one l ts) (grants_few l ts)
  grant_few l (Combine trig ts) = combine_parts trig ts (grant_one l ts) (grants_few l ts)
  grant_few l (Limit due t) = limit_part false due t (grant l t) (grant_few l t)

  grants_few : (l : LockNo) (ts : Trees) → few_all (grant_one l ts) ≤ few_all ts
  grants_few l NoTree = omega arith
  grants_few l (Then t ts) = one_few (awaits (awaited.Lock l) t) t (grant l t) ts (grant_one l ts) (grant_few l t) (grants_few l ts)

-- ---- begin

lock_few : (b : Bool) (l : LockNo) (trig : trigger.Trig) (f : Facts)
    → few (if b then begun (Leaf (awaited.Lock l) trig) f else begun (Over (finish.Reached trig)) (with_held l f)).tree ≤ 1
lock_few true l trig f = omega arith
lock_few false l trig f = omega arith

join_few : (o : Option Bool) (task : _) (trig : trigger.Trig) → few (join_begun o task trig) ≤ 1
join_few None task trig = omega arith
join_few (Some failed) task trig = omega arith

begun_few : (on : Awaited) (trig : trigger.Trig) (f : Facts) → few (leaf_begun on trig f).tree ≤ 1
begun_few (awaited.Key k) trig f = omega arith
begun_few (awaited.Event e) trig f = leaf_few (is_set e f) (finish.Reached trig) (awaited.Event e) trig
begun_few (awaited.Lock l) trig f = lock_few (is_held l f) l trig f
begun_few (awaited.Join task) trig f = join_few (ended task f) task trig

until_one : (b : Bool) (t u : Tree) (ts us : Trees) (g k : Facts) → few u ≤ few t → few_all us ≤ few_all ts
    → few_all (if b then all_begun (Then u ts) g else then_begun u (all_begun us k)).trees ≤ few_all (Then t ts)
until_one true t u ts us g k h d = then_few t u ts ts h (omega arith)
until_one false t u ts us g k h d = then_few t u ts us h d

mutual
  begin_few : (t : Tree) (f : Facts) → few (begin t f).tree ≤ few t
  begin_few (Over x) f = omega arith
  begin_few (Leaf on trig) f = begun_few on trig f
  begin_few (Cycles key left trig) f = omega arith
  begin_few (First ts) f = first_parts ts (begin_until ts f).trees (until_few ts f)
  begin_few (Combine trig ts) f = combine_parts trig ts (begin_all ts f).trees (all_few ts f)
  begin_few (Limit due t) f = limit_part false due t (begin t f).tree (begin_few t f)

  until_few : (ts : Trees) (f : Facts) → few_all (begin_until ts f).trees ≤ few_all ts
  until_few NoTree f = omega arith
  until_few (Then t ts) f =
      until_one (is_over (begin t f).tree) t (begin t f).tree ts (begin_until ts (begin t f).facts).trees (begin t f).facts
      (begin_until ts (begin t f).facts).facts (begin_few t f) (until_few ts (begin t f).facts)

  all_few : (ts : Trees) (f : Facts) → few_all (begin_all ts f).trees ≤ few_all ts
  all_few NoTree f = omega arith
  all_few (Then t ts) f = then_few t (begin t f).tree ts (begin_all ts (begin t f).facts).trees (begin_few t f) (all_few ts (begin t f).facts)

-- ---- what is left

rest_few : (t : Tree) → few (rest_of t) ≤ few t
rest_few (Over f) = omega arith
rest_few (Leaf on trig) = omega arith
rest_few (Cycles key left trig) = omega arith
rest_few (First ts) = omega arith
rest_few (Combine trig ts) = omega arith
rest_few (Limit due t) = omega arith

rest_small : (t u v : Tree) → few u ≤ few t → v ≡ rest_of u → few t ≤ 64 → few v ≤ 64
rest_small t u v h e k = rw e (let r : few (rest_of u) ≤ few u = rest_few u in omega arith)

pub few_begun : (t u v : Tree) (f g : Facts) → begun u g ≡ begin t f → v ≡ rest_of u → length (leaves t) ≤ 64 → length (leaves v) ≤ 64
few_begun t u v f g b e h = rest_small t u v (rw (ap (λ (x : Begun). x.tree) b) (begin_few t f)) e h

pub few_fired : (c : Cause) (t u v : Tree) → u ≡ fire c t → v ≡ rest_of u → length (leaves t) ≤ 64 → length (leaves v) ≤ 64
few_fired c t u v b e h = rest_small t u v (rw b (fire_few c t)) e h

pub few_granted : (l : LockNo) (t u v : Tree) → u ≡ grant l t → v ≡ rest_of u → length (leaves t) ≤ 64 → length (leaves v) ≤ 64
few_granted l t u v b e h = rest_small t u v (rw b (grant_few l t)) e h

-- ---- the tree of a sound trigger

mutual
  pub as_many : (t : trigger.Trig) (now : ℕ) → trigger.IsSound t → length (leaves (tree_of t now)) ≡ trigger.leaves t
  as_many (trigger.Made id form) now h = as_many_form form (trigger.Made id form) now h

  as_many_form : (form : trigger.Form) (trig : trigger.Trig) (now : ℕ) → trigger.IsSoundForm form → few (form_tree form trig now) ≡ trigger.form_leaves form
  as_many_form (trigger.Time n) trig now h = refl
  as_many_form (trigger.Rise s) trig now h = refl
  as_many_form (trigger.Fall s) trig now h = refl
  as_many_form (trigger.Change s) trig now h = refl
  as_many_form trigger.ReadWrite trig now h = refl
  as_many_form trigger.ReadOnly trig now h = refl
  as_many_form trigger.NextStep trig now h = refl
  as_many_form (trigger.Cycles s n b) trig now h = refl
  as_many_form (trigger.Event e) trig now h = refl
  as_many_form (trigger.Lock l) trig now h = refl
  as_many_form (trigger.Join t) trig now h = refl
  as_many_form (trigger.First ts) trig now h = as_many_all ts now h.1
  as_many_form (trigger.Combine ts) trig now h = as_many_all ts now h.1
  as_many_form (trigger.Limit trigger.NoTrig n) trig now h = absurd h.2
  as_many_form (trigger.Limit (trigger.Then t trigger.NoTrig) n) trig now h =
      let e : few (tree_of t now) ≡ trigger.leaves t = as_many t now h.1.0 in
      let d : few (Limit (now + n) (tree_of t now)) ≡ few (tree_of t now) + 1 = limit_one (now + n) (tree_of t now) in
      omega arith
  as_many_form (trigger.Limit (trigger.Then t (trigger.Then u us)) n) trig now h = absurd h.2

  as_many_all : (ts : trigger.Trigs) (now : ℕ) → trigger.AreSound ts → few_all (all_trees ts now) ≡ trigger.row_leaves ts
  as_many_all trigger.NoTrig now h = refl
  as_many_all (trigger.Then t ts) now h =
      let e : few (tree_of t now) ≡ trigger.leaves t = as_many t now h.0 in
      let d : few_all (all_trees ts now) ≡ trigger.row_leaves ts = as_many_all ts now h.1 in
      omega (arith, length-append (leaves (tree_of t now)) (all_leaves (all_trees ts now)))

small_few : (l d : ℕ) → IsTrue (nat_le 1 l && (nat_le l 64 && nat_le d 64)) → l ≤ 64
small_few l d h = grind arith

sound_few : (form : trigger.Form) → trigger.IsSoundForm form → trigger.form_leaves form ≤ 64
sound_few (trigger.First ts) h = small_few (trigger.row_leaves ts) (trigger.row_depth ts + 1) h.0
sound_few (trigger.Combine ts) h = small_few (trigger.row_leaves ts) (trigger.row_depth ts + 1) h.0
sound_few (trigger.Limit ts n) h = small_few (trigger.row_leaves ts + 1) (trigger.row_depth ts + 1) h.0
sound_few _ h = omega arith

pub few_made : (t : trigger.Trig) (now : ℕ) (u : Tree) → u ≡ tree_of t now → trigger.IsSound t → length (leaves u) ≤ 64
few_made (trigger.Made id form) now u e h =
    rw e (let d : few (tree_of (trigger.Made id form) now) ≡ trigger.form_leaves form = as_many (trigger.Made id form) now h in
    let k : trigger.form_leaves form ≤ 64 = sound_few form h in
    omega arith)

pub leaves_are_few : LeavesAreFew
leaves_are_few = record { as_many = as_many; few = λ (t : trigger.Trig) (now : ℕ) (h : trigger.IsSound t). few_made t now (tree_of t now) refl h }
