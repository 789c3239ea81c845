-- A means of proof: what the parts of a call do to the list.
use Rattle.std.specs.Prelude.{◌≡◌, ℕ, ◌+◌, ◌≤◌, List, [], ◌∷◌, ◌++◌, length, take, drop}
use Rattle.await_tree.specs.Steps.{step_of}
use Rattle.await_tree.specs.Tree.{Tree}
use Rattle.await_tree.specs.declared.cause.Step.{Step}
use Rattle.await_tree.specs.declared.cause.Step.TheVariants.{Still, Done}
use Rattle.await_tree.specs.WaitList.Waiting.{Waiting, entry_of, left_of}
use Rattle.await_tree.specs.declared.wait_list.ready.Entry.{Entry}

-- A walk over the list comes to the next place, and these are left of the task at the last one.
pub record Passes (before after : List Waiting) (at next : ℕ) (left : List Waiting) : Type 0 where
  pub inside : next ≤ length after
  pub front : take next after ≡ take at before ++ left
  pub back : drop next after ≡ drop (at + 1) before

-- those who wait still, and who is woken, where what a tree came to answers this
abbrev pub left_by : Step → List Waiting → List Waiting
left_by Still ws = ws
left_by (Done given) ws = []

abbrev pub woken_by : Step → List Waiting → List Entry
woken_by Still ws = []
woken_by (Done given) [] = []
woken_by (Done given) (w ∷ ws) = record { task = w.task; given = given } ∷ woken_by (Done given) ws

-- who waits still where each tree is changed so, and who is woken
abbrev pub left_after : (Tree → Tree) → List Waiting → List Waiting
left_after change [] = []
left_after change (w ∷ ws) = left_of w.task (change w.tree) (step_of (change w.tree)) ++ left_after change ws

abbrev pub woken_after : (Tree → Tree) → List Waiting → List Entry
woken_after change [] = []
woken_after change (w ∷ ws) = entry_of w.task (step_of (change w.tree)) ++ woken_after change ws
