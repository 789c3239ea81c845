-- A tree begins (cocotb 1.8, "Triggers"): from left to right, and a First begins no part after one that is done.
use Rattle.std.specs.Prelude.{ℕ, ◌<◌, Bool, true, false, List, length, Option, None, Some, if◌then◌else◌, slice_index_or, slice_set}
use Rattle.py_value.specs.declared.trigger.TaskNo.{TaskNo}
use Rattle.py_value.specs.declared.trigger.EventNo.{EventNo}
use Rattle.py_value.specs.declared.trigger.LockNo.{LockNo}
use Rattle.py_value.specs.Trigger.{Trig}
use Rattle.await_tree.specs.declared.cause.Awaited.{Awaited}
use Rattle.await_tree.specs.declared.cause.Awaited.TheVariants as awaited
use Rattle.await_tree.specs.declared.finish.Finish.TheVariants as finish
use Rattle.await_tree.specs.Tree.{Tree, Trees, Over, Leaf, Cycles, First, Combine, Limit, NoTree, Then, is_over, first_of, combine_of, limit_of}

-- What a tree asks when it begins, of each event, lock and task that was made in the test, by its number: whether the event is set,
-- whether the lock is held, and of a task that has ended whether it failed.
pub record Facts : Type 0 where
  pub events : List Bool
  pub locks : List Bool
  pub tasks : List (Option Bool)

abbrev pub is_set : EventNo → Facts → Bool
is_set event facts = slice_index_or facts.events event.0 false

abbrev pub is_held : LockNo → Facts → Bool
is_held lock facts = slice_index_or facts.locks lock.0 false

abbrev pub ended : TaskNo → Facts → Option Bool
ended task facts = slice_index_or facts.tasks task.0 None

-- the lock is held, and all else as before
abbrev pub with_held : LockNo → Facts → Facts
with_held lock facts = record facts { locks = slice_set facts.locks lock.0 true }

-- ---- known numbers

-- how many events, locks and tasks were made
pub record Made : Type 0 where
  pub events : ℕ
  pub locks : ℕ
  pub tasks : ℕ

abbrev pub made : Facts → Made
made facts = record { events = length facts.events; locks = length facts.locks; tasks = length facts.tasks }

-- it is no event, lock or task but one that was made
abbrev pub IsMade : Made → Awaited → Type 0
IsMade m (awaited.Key key) = Unit {0}
IsMade m (awaited.Event event) = event.0 < m.events
IsMade m (awaited.Lock lock) = lock.0 < m.locks
IsMade m (awaited.Join task) = task.0 < m.tasks

-- each leaf of the tree is on what was made
abbrev mutual
  pub Knows : Made → Tree → Type 0
  Knows m (Over f) = Unit {0}
  Knows m (Leaf on trig) = IsMade m on
  Knows m (Cycles key left trig) = Unit {0}
  Knows m (First ts) = KnowsAll m ts
  Knows m (Combine trig ts) = KnowsAll m ts
  Knows m (Limit due t) = Knows m t

  pub KnowsAll : Made → Trees → Type 0
  KnowsAll m NoTree = Unit {0}
  KnowsAll m (Then t ts) = Knows m t × KnowsAll m ts

-- ---- begin

-- what has begun, and the facts then
pub record Begun : Type 0 where
  pub tree : Tree
  pub facts : Facts

pub record AllBegun : Type 0 where
  pub trees : Trees
  pub facts : Facts

abbrev pub begun : Tree → Facts → Begun
begun t facts = record { tree = t; facts = facts }

abbrev pub all_begun : Trees → Facts → AllBegun
all_begun ts facts = record { trees = ts; facts = facts }

abbrev pub join_begun : Option Bool → TaskNo → Trig → Tree
join_begun None task trig = Leaf (awaited.Join task) trig
join_begun (Some failed) task trig = Over (finish.Ended task failed)

-- A leaf is done at once where its event is set, its lock is free, which it takes, or its task has ended.
abbrev pub leaf_begun : Awaited → Trig → Facts → Begun
leaf_begun (awaited.Key key) trig facts = begun (Leaf (awaited.Key key) trig) facts
leaf_begun (awaited.Event event) trig facts =
    begun (if is_set event facts then Over (finish.Reached trig) else Leaf (awaited.Event event) trig) facts
leaf_begun (awaited.Lock lock) trig facts =
    if is_held lock facts then begun (Leaf (awaited.Lock lock) trig) facts else begun (Over (finish.Reached trig)) (with_held lock facts)
leaf_begun (awaited.Join task) trig facts = begun (join_begun (ended task facts) task trig) facts

abbrev pub then_begun : Tree → AllBegun → AllBegun
then_begun t b = all_begun (Then t b.trees) b.facts

abbrev mutual
  pub begin : Tree → Facts → Begun
  begin (Over f) facts = begun (Over f) facts
  begin (Leaf on trig) facts = leaf_begun on trig facts
  begin (Cycles key left trig) facts = begun (Cycles key left trig) facts
  begin (First ts) facts = let b = begin_until ts facts in begun (first_of b.trees) b.facts
  begin (Combine trig ts) facts = let b = begin_all ts facts in begun (combine_of trig b.trees) b.facts
  begin (Limit due t) facts = let b = begin t facts in begun (limit_of false due b.tree) b.facts

  -- up to the first part that is done
  pub begin_until : Trees → Facts → AllBegun
  begin_until NoTree facts = all_begun NoTree facts
  begin_until (Then t ts) facts =
      let b = begin t facts in
      if is_over b.tree then all_begun (Then b.tree ts) b.facts else then_begun b.tree (begin_until ts b.facts)

  pub begin_all : Trees → Facts → AllBegun
  begin_all NoTree facts = all_begun NoTree facts
  begin_all (Then t ts) facts = let b = begin t facts in then_begun b.tree (begin_all ts b.facts)
