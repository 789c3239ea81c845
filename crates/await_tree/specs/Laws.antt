-- A means of proof: laws of trees, for the proofs of the keepers of waiting tasks.
use Rattle.std.specs.Prelude.{◌≡◌, ◌⊎◌, ℕ, ◌≤◌, true, false, List, [], ◌∷◌, length}
use Rattle.py_value.specs.Trigger as trigger
use Rattle.py_value.specs.Trigger.{Trig, IsSound}
use Rattle.py_value.specs.declared.trigger.LockNo.{LockNo}
use Rattle.await_tree.specs.declared.cause.Awaited.{Awaited}
use Rattle.await_tree.specs.declared.cause.Cause.{Cause}
use Rattle.await_tree.specs.Tree.{Tree, leaves, is_over}
use Rattle.await_tree.specs.Begin.{Facts, begin}
use Rattle.await_tree.specs.Fire.{fire, grant, is_among, reach_of}
use Rattle.await_tree.specs.Check.{tree_of}
use Rattle.await_tree.specs.Settled.{IsSettled}

-- a tree that is done waits for nothing
abbrev pub DoneIsBare : Type 0
DoneIsBare = (t : Tree) → is_over t ≡ true → leaves t ≡ []

-- the tree of a sound trigger has as many leaves as the trigger, at most 64
pub record LeavesAreFew : Type 0 where
  pub as_many : (t : Trig) → (now : ℕ) → IsSound t → length (leaves (tree_of t now)) ≡ trigger.leaves t
  pub few : (t : Trig) → (now : ℕ) → IsSound t → length (leaves (tree_of t now)) ≤ 64

-- what has begun is settled, whatever reaches it
pub record StaysSettled : Type 0 where
  pub begins : (t : Tree) → (f : Facts) → IsSettled (begin t f).tree
  pub fires : (c : Cause) → (t : Tree) → IsSettled t → IsSettled (fire c t)
  pub grants : (l : LockNo) → (t : Tree) → IsSettled t → IsSettled (grant l t)

-- a cause that no waiting leaf is on changes nothing
abbrev pub UnawaitedIsStill : Type 0
UnawaitedIsStill = (c : Cause) → (t : Tree) → IsSettled t → is_among (reach_of c) (leaves t) ≡ false → fire c t ≡ t

-- whatever is among the first is among the second
abbrev pub IsWithin : List Awaited → List Awaited → Type 0
IsWithin xs ys = (a : Awaited) → is_among a xs ≡ true → is_among a ys ≡ true

-- what is waited for after a call was waited for before
pub record LeavesOnlyGo : Type 0 where
  pub begins : (t : Tree) → (f : Facts) → IsWithin (leaves (begin t f).tree) (leaves t)
  pub fires : (c : Cause) → (t : Tree) → IsWithin (leaves (fire c t)) (leaves t)
  pub grants : (l : LockNo) → (t : Tree) → IsWithin (leaves (grant l t)) (leaves t)

-- the first list is the second without some of its members, in the same order
abbrev pub IsSubsequence : List Awaited → List Awaited → Type 0
IsSubsequence [] ys = Unit {0}
IsSubsequence (x ∷ xs) [] = ⊥
IsSubsequence (x ∷ xs) (y ∷ ys) = ((x ≡ y) × IsSubsequence xs ys) ⊎ IsSubsequence (x ∷ xs) ys

-- what is waited for after a call was waited for before, in the same order
pub record LeavesKeepOrder : Type 0 where
  pub begins : (t : Tree) → (f : Facts) → IsSubsequence (leaves (begin t f).tree) (leaves t)
  pub fires : (c : Cause) → (t : Tree) → IsSubsequence (leaves (fire c t)) (leaves t)
  pub grants : (l : LockNo) → (t : Tree) → IsSubsequence (leaves (grant l t)) (leaves t)
