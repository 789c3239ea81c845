-- A cause reaches all leaves that wait for it, and a lock goes to one leaf (cocotb 1.8, "Triggers").
use Rattle.std.specs.Prelude.{ℕ, zero, suc, ◌==◌, ◌||◌, Bool, false, List, [], ◌∷◌, if◌then◌else◌}
use Rattle.gpi.specs.Keys.{same_key}
use Rattle.gpi.specs.declared.types.Key.{Key}
use Rattle.gpi.specs.declared.types.Key.TheVariants.{At}
use Rattle.py_value.specs.declared.trigger.LockNo.{LockNo}
use Rattle.py_value.specs.Trigger.{Trig}
use Rattle.await_tree.specs.declared.cause.Awaited.{Awaited}
use Rattle.await_tree.specs.declared.cause.Awaited.TheVariants as awaited
use Rattle.await_tree.specs.declared.cause.Cause.{Cause}
use Rattle.await_tree.specs.declared.cause.Cause.TheVariants as cause
use Rattle.await_tree.specs.declared.finish.Finish.{Finish}
use Rattle.await_tree.specs.declared.finish.Finish.TheVariants as finish
use Rattle.await_tree.specs.Tree.{Tree, Trees, Over, Leaf, Cycles, First, Combine, Limit, NoTree, Then, leaves, first_of, combine_of, limit_of}

abbrev pub is_same : Awaited → Awaited → Bool
is_same (awaited.Key k) (awaited.Key own) = same_key k own
is_same (awaited.Event e) (awaited.Event own) = e.0 == own.0
is_same (awaited.Lock l) (awaited.Lock own) = l.0 == own.0
is_same (awaited.Join t) (awaited.Join own) = t.0 == own.0
is_same _ _ = false

-- what the leaves wait for that a cause reaches
abbrev pub reach_of : Cause → Awaited
reach_of (cause.Key key) = awaited.Key key
reach_of (cause.Event event) = awaited.Event event
reach_of (cause.Ended task failed) = awaited.Join task

-- a leaf that is reached gives its trigger, but one on an ended task what that task gives
abbrev pub reached : Cause → Trig → Finish
reached (cause.Key key) trig = finish.Reached trig
reached (cause.Event event) trig = finish.Reached trig
reached (cause.Ended task failed) trig = finish.Ended task failed

-- so many edges after one more: the key is awaited again after each but the last
abbrev pub edge_passed : ℕ → Key → Trig → Tree
edge_passed zero key trig = Over (finish.Reached trig)
edge_passed (suc zero) key trig = Over (finish.Reached trig)
edge_passed (suc (suc left)) key trig = Cycles key (suc left) trig

-- All leaves on the cause are reached at once.
abbrev mutual
  pub fire : Cause → Tree → Tree
  fire c (Over f) = Over f
  fire c (Leaf on trig) = if is_same (reach_of c) on then Over (reached c trig) else Leaf on trig
  fire c (Cycles key left trig) = if is_same (reach_of c) (awaited.Key key) then edge_passed left key trig else Cycles key left trig
  fire c (First ts) = first_of (fire_all c ts)
  fire c (Combine trig ts) = combine_of trig (fire_all c ts)
  fire c (Limit due t) = limit_of (is_same (reach_of c) (awaited.Key (At due))) due (fire c t)

  pub fire_all : Cause → Trees → Trees
  fire_all c NoTree = NoTree
  fire_all c (Then t ts) = Then (fire c t) (fire_all c ts)

abbrev pub is_among : Awaited → List Awaited → Bool
is_among a [] = false
is_among a (own ∷ ws) = is_same a own || is_among a ws

-- a waiting leaf of the tree is on this
abbrev pub awaits : Awaited → Tree → Bool
awaits a t = is_among a (leaves t)

-- The leftmost waiting leaf on the lock is reached, and no other.
abbrev mutual
  pub grant : LockNo → Tree → Tree
  grant l (Over f) = Over f
  grant l (Leaf on trig) = if is_same (awaited.Lock l) on then Over (finish.Reached trig) else Leaf on trig
  grant l (Cycles key left trig) = Cycles key left trig
  grant l (First ts) = first_of (grant_one l ts)
  grant l (Combine trig ts) = combine_of trig (grant_one l ts)
  grant l (Limit due t) = limit_of false due (grant l t)

  pub grant_one : LockNo → Trees → Trees
  grant_one l NoTree = NoTree
  grant_one l (Then t ts) = if awaits (awaited.Lock l) t then Then (grant l t) ts else Then t (grant_one l ts)
