-- What trees that begin ask for and leave.
use Rattle.std.specs.Prelude.{if◌then◌else◌}
use Rattle.std.proofs.Common.{◌≡◌, ◌≤◌, Bool, true, false, List, length, refl, ◌∙◌, arith}
use Rattle.py_value.specs.declared.trigger.LockNo.{LockNo}
use Rattle.py_value.specs.Trigger.{Trig}
use Rattle.py_evaluate.specs.Attribute.Look.{View}
use Rattle.await_tree.specs.declared.cause.Awaited.{Awaited}
use Rattle.await_tree.specs.declared.cause.Awaited.TheVariants as awaited
use Rattle.await_tree.specs.declared.cause.Step.TheVariants.{Still}
use Rattle.await_tree.specs.declared.finish.Finish.TheVariants.{Reached}
use Rattle.await_tree.specs.Tree.{Tree, Trees, Over, Leaf, Cycles, First, Combine, Limit, NoTree, Then, is_over}
use Rattle.await_tree.specs.Begin.{Facts, AllBegun, Made, IsMade, Knows, KnowsAll, begun, is_held, with_held, leaf_begun, then_begun, all_begun, begin, begin_until, begin_all}
use Rattle.await_tree.specs.Check.{tree_of}
use Rattle.await_tree.specs.Steps.{step_of, rest_of}
use Rattle.await_tree.specs.WaitList.Begun.{IsBegun}
use Rattle.rig_model.specs.Run.Known.{KnowsAwaited, KnowsTree, KnowsTrees}

-- ---- what a known tree asks for was made

module _ (v : View) (m : Made) (events : length v.events ≤ m.events) (locks : length v.locks ≤ m.locks) (tasks : length v.ended ≤ m.tasks) where
  leaf_made : (on : Awaited) → KnowsAwaited v on → IsMade m on
  leaf_made (awaited.Key k) h = tt
  leaf_made (awaited.Event e) h = omega (arith, h, events)
  leaf_made (awaited.Lock l) h = omega (arith, h, locks)
  leaf_made (awaited.Join t) h = omega (arith, h, tasks)

  mutual
    pub tree_made : (t : Tree) → KnowsTree v t → Knows m t
    tree_made (Over f) h = tt
    tree_made (Leaf on trig) h = leaf_made on h.0
    tree_made (Cycles k left trig) h = tt
    tree_made (First ts) h = trees_made ts h
    tree_made (Combine trig ts) h = trees_made ts h.1
    tree_made (Limit due t) h = tree_made t h

    trees_made : (ts : Trees) → KnowsTrees v ts → KnowsAll m ts
    trees_made NoTree h = tt
    trees_made (Then t ts) h = (tree_made t h.0, trees_made ts h.1)

-- ---- a tree that begins sets no event

lock_events : (b : Bool) (l : LockNo) (trig : Trig) (f : Facts)
    → (if b then begun (Leaf (awaited.Lock l) trig) f else begun (Over (Reached trig)) (with_held l f)).facts.events ≡ f.events
lock_events true l trig f = refl
lock_events false l trig f = refl

leaf_events : (on : Awaited) (trig : Trig) (f : Facts) → (leaf_begun on trig f).facts.events ≡ f.events
leaf_events (awaited.Key k) trig f = refl
leaf_events (awaited.Event e) trig f = refl
leaf_events (awaited.Lock l) trig f = lock_events (is_held l f) l trig f
leaf_events (awaited.Join t) trig f = refl

until_events : (b : Bool) (t : Tree) (ts : Trees) (f : Facts) (more : AllBegun) (es : List Bool) → f.events ≡ es → more.facts.events ≡ es
    → (if b then all_begun (Then t ts) f else then_begun t more).facts.events ≡ es
until_events true t ts f more es h k = h
until_events false t ts f more es h k = k

mutual
  pub begin_events : (t : Tree) (f : Facts) → (begin t f).facts.events ≡ f.events
  begin_events (Over x) f = refl
  begin_events (Leaf on trig) f = leaf_events on trig f
  begin_events (Cycles k left trig) f = refl
  begin_events (First ts) f = begins_until_events ts f
  begin_events (Combine trig ts) f = begins_events ts f
  begin_events (Limit due t) f = begin_events t f

  begins_until_events : (ts : Trees) (f : Facts) → (begin_until ts f).facts.events ≡ f.events
  begins_until_events NoTree f = refl
  begins_until_events (Then t ts) f =
      until_events (is_over (begin t f).tree) (begin t f).tree ts (begin t f).facts (begin_until ts (begin t f).facts) f.events (begin_events t f)
      (begins_until_events ts (begin t f).facts ∙ begin_events t f)

  begins_events : (ts : Trees) (f : Facts) → (begin_all ts f).facts.events ≡ f.events
  begins_events NoTree f = refl
  begins_events (Then t ts) f = begins_events ts (begin t f).facts ∙ begin_events t f

-- ---- a tree that waits

pub still_rest : (t : Tree) → step_of t ≡ Still → rest_of t ≡ t
still_rest (Over f) h = absurd (cc)
still_rest (Leaf on trig) h = refl
still_rest (Cycles k left trig) h = refl
still_rest (First ts) h = refl
still_rest (Combine trig ts) h = refl
still_rest (Limit due t) h = refl

still_waits : (t : Tree) → step_of t ≡ Still → is_over t ≡ false
still_waits (Over f) h = absurd (cc)
still_waits (Leaf on trig) h = refl
still_waits (Cycles k left trig) h = refl
still_waits (First ts) h = refl
still_waits (Combine trig ts) h = refl
still_waits (Limit due t) h = refl

pub begun_still : (trig : Trig) (now : _) (facts : Facts) (tree : Tree) → tree ≡ (begin (tree_of trig now) facts).tree → step_of tree ≡ Still → IsBegun tree
begun_still trig now facts tree is still = record { trig = trig; now = now; facts = facts; is = is; waits = still_waits tree still }
