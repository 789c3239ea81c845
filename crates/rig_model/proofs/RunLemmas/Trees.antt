-- What is left of a tree that is known is known, and so is what it gives.
use Rattle.std.proofs.Common.{◌≡◌, ℕ, zero, suc, Bool, true, false, List, [], ◌∷◌, length, Option, None, Some, refl, ap, ◌∙◌, arith, rules, if◌then◌else◌}
use Rattle.std.specs.Prelude.{◌==◌, IfSome, slice_set}
use Rattle.gpi.specs.declared.types.SigId.{SigId}
use Rattle.gpi.specs.declared.types.Key.{Key}
use Rattle.gpi.specs.declared.types.Key.TheVariants.{At}
use Rattle.py_value.specs.declared.trigger.LockNo.{LockNo}
use Rattle.py_value.specs.declared.trigger.TaskNo.{TaskNo}
use Rattle.py_value.specs.Trigger.{Trig, Made, Form, Trigs, NoTrig, IsSoundForm, AreSound}
use Rattle.py_value.specs.Trigger as trigger
use Rattle.py_evaluate.specs.Attribute.Look.{View}
use Rattle.py_evaluate.specs.Attribute.Knows.{KnowsSignal, KnowsForm, KnowsTrigs}
use Rattle.await_tree.specs.declared.cause.Awaited.{Awaited}
use Rattle.await_tree.specs.declared.cause.Awaited.TheVariants as awaited
use Rattle.await_tree.specs.declared.cause.Cause.{Cause}
use Rattle.await_tree.specs.declared.cause.Cause.TheVariants as cause
use Rattle.await_tree.specs.declared.cause.Step.{Step}
use Rattle.await_tree.specs.declared.cause.Step.TheVariants.{Still, Done}
use Rattle.await_tree.specs.declared.finish.Finish.{Finish}
use Rattle.await_tree.specs.declared.finish.Finish.TheVariants.{Reached, Ended, TimedOut}
use Rattle.await_tree.specs.Tree.{Tree, Trees, Over, Leaf, Cycles, First, Combine, Limit, NoTree, Then, given_of, is_over, is_faulted, are_over, or_left, first_over, first_faulted, first_by, first_of, combine_by, combine_of, limit_by, limit_of}
use Rattle.await_tree.specs.Fire.{is_same, reach_of, reached, edge_passed, fire, fire_all, awaits, grant, grant_one}
use Rattle.await_tree.specs.Begin.{Facts, AllBegun, begun, is_set, is_held, ended, with_held, join_begun, leaf_begun, then_begun, all_begun, begin, begin_until, begin_all}
use Rattle.await_tree.specs.Check.{edge, only, tree_of, form_tree, all_trees}
use Rattle.await_tree.specs.Steps.{step_of}
use Rattle.rig_model.specs.Task.Known.{KnowsGiven}
use Rattle.rig_model.specs.Run.Known.{KnowsTrigger, KnowsKey, KnowsAwaited, KnowsFinish, KnowsTree, KnowsTrees}

module _ (v : View) where
  -- ---- parts

  left_known : (b : Bool) (t : Tree) (o : Option Tree) → KnowsTree v t → IfSome o (KnowsTree v) → IfSome (or_left b t o) (KnowsTree v)
  left_known true t o h k = h
  left_known false t o h k = k

  over_known : (ts : Trees) → KnowsTrees v ts → IfSome (first_over ts) (KnowsTree v)
  over_known NoTree h = tt
  over_known (Then t ts) h = left_known (is_over t) t (first_over ts) h.0 (over_known ts h.1)

  fault_known : (ts : Trees) → KnowsTrees v ts → IfSome (first_faulted ts) (KnowsTree v)
  fault_known NoTree h = tt
  fault_known (Then t ts) h = left_known (is_faulted t) t (first_faulted ts) h.0 (fault_known ts h.1)

  first_by_known : (o : Option Tree) (ts : Trees) → IfSome o (KnowsTree v) → KnowsTrees v ts → KnowsTree v (first_by o ts)
  first_by_known (Some t) ts h k = h
  first_by_known None ts h k = k

  first_known : (ts : Trees) → KnowsTrees v ts → KnowsTree v (first_of ts)
  first_known ts h = first_by_known (first_over ts) ts (over_known ts h) h

  combine_by_known : (o : Option Tree) (all : Bool) (trig : Trig) (ts : Trees) → IfSome o (KnowsTree v) → KnowsTrigger v trig → KnowsTrees v ts
      → KnowsTree v (combine_by o all trig ts)
  combine_by_known (Some t) all trig ts h k l = h
  combine_by_known None true trig ts h k l = k
  combine_by_known None false trig ts h k l = (k, l)

  combine_known : (trig : Trig) (ts : Trees) → KnowsTrigger v trig → KnowsTrees v ts → KnowsTree v (combine_of trig ts)
  combine_known trig ts h k = combine_by_known (first_faulted ts) (are_over ts) trig ts (fault_known ts k) h k

  limit_by_known : (over late : Bool) (due : ℕ) (t : Tree) → KnowsTree v t → KnowsTree v (limit_by over late due t)
  limit_by_known true late due t h = h
  limit_by_known false true due t h = tt
  limit_by_known false false due t h = h

  limit_known : (late : Bool) (due : ℕ) (t : Tree) → KnowsTree v t → KnowsTree v (limit_of late due t)
  limit_known late due t h = limit_by_known (is_over t) late due t h

  -- ---- fire

  same_number : (m n : ℕ) → (m == n) ≡ true → m ≡ n
  same_number m n e = search rules

  -- a leaf that an ended task reaches is a join of that task
  reached_known : (c : Cause) (on : Awaited) (trig : Trig) → is_same (reach_of c) on ≡ true → KnowsAwaited v on → KnowsTrigger v trig → KnowsFinish v (reached c trig)
  reached_known (cause.Key k) on trig e h g = g
  reached_known (cause.Event event) on trig e h g = g
  reached_known (cause.Ended task failed) (awaited.Join t) trig e h g = omega (arith, h, same_number task.0 t.0 e)
  reached_known (cause.Ended task failed) (awaited.Key k) trig e h g = absurd (cc)
  reached_known (cause.Ended task failed) (awaited.Event event) trig e h g = absurd (cc)
  reached_known (cause.Ended task failed) (awaited.Lock l) trig e h g = absurd (cc)

  leaf_fired : (b : Bool) (c : Cause) (on : Awaited) (trig : Trig) → is_same (reach_of c) on ≡ b → KnowsAwaited v on → KnowsTrigger v trig
      → KnowsTree v (if b then Over (reached c trig) else Leaf on trig)
  leaf_fired true c on trig e h g = reached_known c on trig e h g
  leaf_fired false c on trig e h g = (h, g)

  edge_fired : (left : ℕ) (k : Key) (trig : Trig) → KnowsKey v k → KnowsTrigger v trig → KnowsTree v (edge_passed left k trig)
  edge_fired zero k trig h g = g
  edge_fired (suc zero) k trig h g = g
  edge_fired (suc (suc left)) k trig h g = (h, g)

  cycles_fired : (b : Bool) (left : ℕ) (k : Key) (trig : Trig) → KnowsKey v k → KnowsTrigger v trig
      → KnowsTree v (if b then edge_passed left k trig else Cycles k left trig)
  cycles_fired true left k trig h g = edge_fired left k trig h g
  cycles_fired false left k trig h g = (h, g)

  mutual
    pub fire_known : (c : Cause) (t : Tree) → KnowsTree v t → KnowsTree v (fire c t)
    fire_known c (Over f) h = h
    fire_known c (Leaf on trig) h = leaf_fired (is_same (reach_of c) on) c on trig refl h.0 h.1
    fire_known c (Cycles k left trig) h = cycles_fired (is_same (reach_of c) (awaited.Key k)) left k trig h.0 h.1
    fire_known c (First ts) h = first_known (fire_all c ts) (fires_known c ts h)
    fire_known c (Combine trig ts) h = combine_known trig (fire_all c ts) h.0 (fires_known c ts h.1)
    fire_known c (Limit due t) h = limit_known (is_same (reach_of c) (awaited.Key (At due))) due (fire c t) (fire_known c t h)

    fires_known : (c : Cause) (ts : Trees) → KnowsTrees v ts → KnowsTrees v (fire_all c ts)
    fires_known c NoTree h = tt
    fires_known c (Then t ts) h = (fire_known c t h.0, fires_known c ts h.1)

  -- ---- grant

  leaf_granted : (b : Bool) (on : Awaited) (trig : Trig) → KnowsAwaited v on → KnowsTrigger v trig → KnowsTree v (if b then Over (Reached trig) else Leaf on trig)
  leaf_granted true on trig h g = g
  leaf_granted false on trig h g = (h, g)

  one_granted : (b : Bool) (t u : Tree) (ts us : Trees) → KnowsTree v t → KnowsTree v u → KnowsTrees v ts → KnowsTrees v us
      → KnowsTrees v (if b then Then u ts else Then t us)
  one_granted true t u ts us h k d e = (k, d)
  one_granted false t u ts us h k d e = (h, e)

  mutual
    pub grant_known : (l : LockNo) (t : Tree) → KnowsTree v t → KnowsTree v (grant l t)
    grant_known l (Over f) h = h
    grant_known l (Leaf on trig) h = leaf_granted (is_same (awaited.Lock l) on) on trig h.0 h.1
    grant_known l (Cycles k left trig) h = h
    grant_known l (First ts) h = first_known (grant_one l ts) (grants_known l ts h)
    grant_known l (Combine trig ts) h = combine_known trig (grant_one l ts) h.0 (grants_known l ts h.1)
    grant_known l (Limit due t) h = limit_known false due (grant l t) (grant_known l t h)

    grants_known : (l : LockNo) (ts : Trees) → KnowsTrees v ts → KnowsTrees v (grant_one l ts)
    grants_known l NoTree h = tt
    grants_known l (Then t ts) h =
        one_granted (awaits (awaited.Lock l) t) t (grant l t) ts (grant_one l ts) h.0 (grant_known l t h.0) h.1 (grants_known l ts h.1)

  -- ---- begin

  event_begun : (b : Bool) (on : Awaited) (trig : Trig) → KnowsAwaited v on → KnowsTrigger v trig → KnowsTree v (if b then Over (Reached trig) else Leaf on trig)
  event_begun true on trig h g = g
  event_begun false on trig h g = (h, g)

  lock_begun : (b : Bool) (l : LockNo) (trig : Trig) (f : Facts) → KnowsAwaited v (awaited.Lock l) → KnowsTrigger v trig
      → KnowsTree v (if b then begun (Leaf (awaited.Lock l) trig) f else begun (Over (Reached trig)) (with_held l f)).tree
  lock_begun true l trig f h g = (h, g)
  lock_begun false l trig f h g = g

  task_begun : (o : Option Bool) (task : TaskNo) (trig : Trig) → KnowsAwaited v (awaited.Join task) → KnowsTrigger v trig → KnowsTree v (join_begun o task trig)
  task_begun None task trig h g = (h, g)
  task_begun (Some failed) task trig h g = h

  leaf_known : (on : Awaited) (trig : Trig) (f : Facts) → KnowsAwaited v on → KnowsTrigger v trig → KnowsTree v (leaf_begun on trig f).tree
  leaf_known (awaited.Key k) trig f h g = (h, g)
  leaf_known (awaited.Event e) trig f h g = event_begun (is_set e f) (awaited.Event e) trig h g
  leaf_known (awaited.Lock l) trig f h g = lock_begun (is_held l f) l trig f h g
  leaf_known (awaited.Join t) trig f h g = task_begun (ended t f) t trig h g

  until_known : (b : Bool) (t : Tree) (ts : Trees) (f : Facts) (more : AllBegun) → KnowsTree v t → KnowsTrees v ts → KnowsTrees v more.trees
      → KnowsTrees v (if b then all_begun (Then t ts) f else then_begun t more).trees
  until_known true t ts f more h k l = (h, k)
  until_known false t ts f more h k l = (h, l)

  mutual
    pub begin_known : (t : Tree) (f : Facts) → KnowsTree v t → KnowsTree v (begin t f).tree
    begin_known (Over x) f h = h
    begin_known (Leaf on trig) f h = leaf_known on trig f h.0 h.1
    begin_known (Cycles k left trig) f h = h
    begin_known (First ts) f h = first_known (begin_until ts f).trees (begins_until_known ts f h)
    begin_known (Combine trig ts) f h = combine_known trig (begin_all ts f).trees h.0 (begins_known ts f h.1)
    begin_known (Limit due t) f h = limit_known false due (begin t f).tree (begin_known t f h)

    begins_until_known : (ts : Trees) (f : Facts) → KnowsTrees v ts → KnowsTrees v (begin_until ts f).trees
    begins_until_known NoTree f h = tt
    begins_until_known (Then t ts) f h =
        until_known (is_over (begin t f).tree) (begin t f).tree ts (begin t f).facts (begin_until ts (begin t f).facts) (begin_known t f h.0) h.1
        (begins_until_known ts (begin t f).facts h.1)

    begins_known : (ts : Trees) (f : Facts) → KnowsTrees v ts → KnowsTrees v (begin_all ts f).trees
    begins_known NoTree f h = tt
    begins_known (Then t ts) f h = (begin_known t f h.0, begins_known ts (begin t f).facts h.1)

  -- ---- the tree of a trigger

  edge_known : (rising : Bool) (sig : SigId) → KnowsSignal v sig.0 → KnowsKey v (edge rising sig)
  edge_known true sig h = h
  edge_known false sig h = h

  only_known : (ts : Trees) → KnowsTrees v ts → KnowsTree v (only ts)
  only_known NoTree h = tt
  only_known (Then t ts) h = h.0

  mutual
    pub tree_known : (t : Trig) (now : ℕ) → KnowsTrigger v t → KnowsTree v (tree_of t now)
    tree_known (Made id form) now h = form_known form (Made id form) now h.0 h.1 h

    form_known : (form : Form) (t : Trig) (now : ℕ) → KnowsForm v form → IsSoundForm form → KnowsTrigger v t → KnowsTree v (form_tree form t now)
    form_known (trigger.Time steps) t now h s g = (tt, g)
    form_known (trigger.Rise sig) t now h s g = (h, g)
    form_known (trigger.Fall sig) t now h s g = (h, g)
    form_known (trigger.Change sig) t now h s g = (h, g)
    form_known trigger.ReadWrite t now h s g = (tt, g)
    form_known trigger.ReadOnly t now h s g = (tt, g)
    form_known trigger.NextStep t now h s g = (tt, g)
    form_known (trigger.Cycles sig count rising) t now h s g = (edge_known rising sig h, g)
    form_known (trigger.Event e) t now h s g = (h, g)
    form_known (trigger.Lock l) t now h s g = (h, g)
    form_known (trigger.Join task) t now h s g = (h, g)
    form_known (trigger.First ts) t now h s g = row_known ts now h s.1
    form_known (trigger.Combine ts) t now h s g = (g, row_known ts now h s.1)
    form_known (trigger.Limit ts steps) t now h s g = only_known (all_trees ts now) (row_known ts now h s.1)

    row_known : (ts : Trigs) (now : ℕ) → KnowsTrigs v ts → AreSound ts → KnowsTrees v (all_trees ts now)
    row_known NoTrig now h s = tt
    row_known (trigger.Then t ts) now h s = (tree_known t now (h.0, s.0), row_known ts now h.1 s.1)

  -- ---- results

  finish_known : (f : Finish) → KnowsFinish v f → KnowsGiven v (given_of f)
  finish_known (Reached trig) h = h
  finish_known (Ended task failed) h = h
  finish_known TimedOut h = tt

  -- what a step gives is known
  abbrev pub KnowsStep : Step → Type 0
  KnowsStep Still = Unit {0}
  KnowsStep (Done g) = KnowsGiven v g

  pub step_known : (t : Tree) → KnowsTree v t → KnowsStep (step_of t)
  step_known (Over f) h = finish_known f h
  step_known (Leaf on trig) h = tt
  step_known (Cycles k left trig) h = tt
  step_known (First ts) h = tt
  step_known (Combine trig ts) h = tt
  step_known (Limit due t) h = tt

-- ---- a tree that begins makes no lock

locks_set : (xs : List Bool) (n : ℕ) (b : Bool) → length (slice_set xs n b) ≡ length xs
locks_set [] n b = refl
locks_set (x ∷ xs) zero b = refl
locks_set (x ∷ xs) (suc n) b = ap suc (locks_set xs n b)

lock_length : (b : Bool) (l : LockNo) (trig : Trig) (f : Facts)
    → length (if b then begun (Leaf (awaited.Lock l) trig) f else begun (Over (Reached trig)) (with_held l f)).facts.locks ≡ length f.locks
lock_length true l trig f = refl
lock_length false l trig f = locks_set f.locks l.0 true

leaf_length : (on : Awaited) (trig : Trig) (f : Facts) → length (leaf_begun on trig f).facts.locks ≡ length f.locks
leaf_length (awaited.Key k) trig f = refl
leaf_length (awaited.Event e) trig f = refl
leaf_length (awaited.Lock l) trig f = lock_length (is_held l f) l trig f
leaf_length (awaited.Join t) trig f = refl

until_length : (b : Bool) (t : Tree) (ts : Trees) (f : Facts) (more : AllBegun) (n : ℕ) → length f.locks ≡ n → length more.facts.locks ≡ n
    → length (if b then all_begun (Then t ts) f else then_begun t more).facts.locks ≡ n
until_length true t ts f more n h k = h
until_length false t ts f more n h k = k

mutual
  pub begin_length : (t : Tree) (f : Facts) → length (begin t f).facts.locks ≡ length f.locks
  begin_length (Over x) f = refl
  begin_length (Leaf on trig) f = leaf_length on trig f
  begin_length (Cycles k left trig) f = refl
  begin_length (First ts) f = begins_until_length ts f
  begin_length (Combine trig ts) f = begins_length ts f
  begin_length (Limit due t) f = begin_length t f

  begins_until_length : (ts : Trees) (f : Facts) → length (begin_until ts f).facts.locks ≡ length f.locks
  begins_until_length NoTree f = refl
  begins_until_length (Then t ts) f =
      until_length (is_over (begin t f).tree) (begin t f).tree ts (begin t f).facts (begin_until ts (begin t f).facts) (length f.locks) (begin_length t f)
      (begins_until_length ts (begin t f).facts ∙ begin_length t f)

  begins_length : (ts : Trees) (f : Facts) → length (begin_all ts f).facts.locks ≡ length f.locks
  begins_length NoTree f = refl
  begins_length (Then t ts) f = begins_length ts (begin t f).facts ∙ begin_length t f
