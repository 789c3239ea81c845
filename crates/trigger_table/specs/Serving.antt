-- A means of proof: how waiting tasks are served.
use Rattle.std.specs.Prelude.{◌≡◌, ℕ, ◌≤◌, Bool, false, List, [], ◌∷◌, ◌++◌, length, map, take, drop, Option, None, Some, slice_get}
use Rattle.await_tree.specs.Fire.{is_same}
use Rattle.await_tree.specs.Laws.{IsSubsequence}
use Rattle.await_tree.specs.Steps.{step_of}
use Rattle.await_tree.specs.Tree.{Tree, leaves}
use Rattle.await_tree.specs.WaitList.Waiting.{Waiting, left_of}
use Rattle.await_tree.specs.declared.cause.Awaited.{Awaited}
use Rattle.await_tree.specs.declared.cause.Step.{Step}
use Rattle.await_tree.specs.declared.cause.Step.TheVariants.{Still}
use Rattle.trigger_table.specs.State.{AllNeeded, Link, Row, State, entry_at, links_at, without_row}
use Rattle.trigger_table.specs.Tied.{AreOn, AreTied, IsWaitable, waiting_in}
use Rattle.trigger_table.specs.declared.entries.CauseRecord.{CauseRecord}

-- These rows stand in the place of one task's row: none where it waits no more.
pub record Replaced (number : ℕ) (old new : List Row) (row : Row) (left : List Row) : Type 0 where
  pub front : List Row
  pub back : List Row
  pub of : row.number ≡ number
  pub was : old ≡ front ++ row ∷ back
  pub now : new ≡ front ++ (left ++ back)

-- A task's waiters are now on these, one on each, from left to right.
pub record Trimmed (number : ℕ) (ons : List Awaited) (causes : List (Option CauseRecord)) (old new : List Row) : Type 0 where
  pub row : Row
  pub links : List Link
  pub changed : Replaced number old new row (record row { links = links } ∷ [])
  pub on : AreOn causes links ons

-- A task's waiters are gone over from left to right. So many have stayed, on the first of these, and those from the next one on are left.
pub record Trimming (number : ℕ) (ons : List Awaited) (kept : ℕ) (at : Option ℕ) (causes : List (Option CauseRecord)) (old new : List Row) : Type 0 where
  pub row : Row
  pub stayed : List Link
  pub left : List Link
  pub changed : Replaced number old new row (record row { links = stayed ++ left } ∷ [])
  pub next : at ≡ slice_get (map (λ (link : Link). link.waiter) left) 0
  pub inside : kept ≤ length ons
  pub on : AreOn causes stayed (take kept ons)
  pub more : List Awaited
  pub on_left : AreOn causes left more
  pub keeps : IsSubsequence (drop kept ons) more

-- A task was told something: its tree came to this, and its waiters are on the leaves that it had before, of which the tree has some still.
pub record Untied (number : ℕ) (step : Step) (ons : List Awaited) (s : State) : Type 0 where
  pub waiting : Waiting
  pub entry : entry_at number s.rows ≡ Some waiting
  pub are : ons ≡ leaves waiting.tree
  pub before : List Awaited
  pub on : AreOn s.causes (links_at number s.rows) before
  pub keeps : IsSubsequence ons before
  pub tree : step ≡ Still → IsWaitable waiting.tree
  pub others : AreTied s.causes (without_row number s.rows)
  pub needed : AllNeeded s

-- what the leaves of a task wait for
abbrev pub leaves_of : Option Waiting → List Awaited
leaves_of None = []
leaves_of (Some w) = leaves w.tree

abbrev pub leaves_at : ℕ → List Row → List Awaited
leaves_at number rows = leaves_of (entry_at number rows)

-- It waits on if its tree has answered so, and else no more.
pub record Settles (number : ℕ) (step : Step) (old new : List Row) : Type 0 where
  pub row : Row
  pub left : List Row
  pub waiting : Waiting
  pub entry : row.entry ≡ Some waiting
  pub changed : Replaced number old new row left
  pub waits : waiting_in left ≡ left_of waiting.task waiting.tree step

-- A task's tree came to something else, and it waits on or no more.
pub record Served (number : ℕ) (come : Tree → Tree) (old new : List Row) : Type 0 where
  pub row : Row
  pub left : List Row
  pub waiting : Waiting
  pub entry : row.entry ≡ Some waiting
  pub changed : Replaced number old new row left
  pub waits : waiting_in left ≡ left_of waiting.task (come waiting.tree) (step_of (come waiting.tree))

-- it is the first of these
abbrev pub is_first : Awaited → List Awaited → Bool
is_first on [] = false
is_first on (own ∷ ons) = is_same on own
