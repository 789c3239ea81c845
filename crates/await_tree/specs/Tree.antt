-- Trees of triggers: what a task waits for, what is left of it, and what has come of it (cocotb 1.8, "Triggers").
use Rattle.std.specs.Prelude.{ℕ, ◌&&◌, Bool, true, false, List, [], ◌∷◌, ◌++◌, Option, None, Some}
use Rattle.gpi.specs.declared.types.Key.{Key}
use Rattle.gpi.specs.declared.types.Key.TheVariants.{At}
use Rattle.py_syntax.specs.declared.fault_kind.FaultKind.TheVariants.{SimTimeoutError}
use Rattle.py_value.specs.Trigger.{Trig}
use Rattle.py_value.specs.Answer.{plain_fault}
use Rattle.py_value.specs.declared.value.Value.TheVariants as value
use Rattle.await_tree.specs.declared.cause.Awaited.{Awaited}
use Rattle.await_tree.specs.declared.cause.Awaited.TheVariants as awaited
use Rattle.await_tree.specs.declared.cause.Given.{Given}
use Rattle.await_tree.specs.declared.cause.Given.TheVariants as given
use Rattle.await_tree.specs.declared.finish.Finish.{Finish}
use Rattle.await_tree.specs.declared.finish.Finish.TheVariants as finish

mutual
  pub data Tree : Type 0 where
    -- it is done
    Over : Finish → Tree
    -- it waits for one thing
    Leaf : Awaited → Trig → Tree
    -- it waits for so many edges
    Cycles : Key → ℕ → Trig → Tree
    First : Trees → Tree
    Combine : Trig → Trees → Tree
    -- it waits for the tree, until this time
    Limit : ℕ → Tree → Tree

  -- parts, from left to right
  pub data Trees : Type 0 where
    NoTree : Trees
    Then : Tree → Trees → Trees

-- ---- results

-- A leaf's result is its trigger, but a join's is what the ended task gives. A limit whose time has come raises SimTimeoutError.
abbrev pub given_of : Finish → Given
given_of (finish.Reached trig) = given.Value (value.Trigger trig)
given_of (finish.Ended task failed) = given.Joined task
given_of finish.TimedOut = given.Fault (plain_fault SimTimeoutError)

-- the result is a fault
abbrev pub is_fault : Finish → Bool
is_fault (finish.Reached trig) = false
is_fault (finish.Ended task failed) = failed
is_fault finish.TimedOut = true

-- ---- what is waited for

-- the waiting leaves, from left to right: none of a part that is done, and the time of a limit behind the leaves of its tree
abbrev mutual
  pub leaves : Tree → List Awaited
  leaves (Over f) = []
  leaves (Leaf on trig) = on ∷ []
  leaves (Cycles key left trig) = awaited.Key key ∷ []
  leaves (First ts) = all_leaves ts
  leaves (Combine trig ts) = all_leaves ts
  leaves (Limit due t) = leaves t ++ awaited.Key (At due) ∷ []

  pub all_leaves : Trees → List Awaited
  all_leaves NoTree = []
  all_leaves (Then t ts) = leaves t ++ all_leaves ts

-- what a tree waits for that is one leaf, or counts edges
abbrev pub lone : Tree → Option Awaited
lone (Over f) = None
lone (Leaf on trig) = Some on
lone (Cycles key left trig) = Some (awaited.Key key)
lone (First ts) = None
lone (Combine trig ts) = None
lone (Limit due t) = None

-- ---- parts that are done

abbrev pub over_of : Tree → Option Finish
over_of (Over f) = Some f
over_of (Leaf on trig) = None
over_of (Cycles key left trig) = None
over_of (First ts) = None
over_of (Combine trig ts) = None
over_of (Limit due t) = None

abbrev pub is_over : Tree → Bool
is_over (Over f) = true
is_over (Leaf on trig) = false
is_over (Cycles key left trig) = false
is_over (First ts) = false
is_over (Combine trig ts) = false
is_over (Limit due t) = false

-- it is done with a fault
abbrev pub is_faulted : Tree → Bool
is_faulted (Over f) = is_fault f
is_faulted (Leaf on trig) = false
is_faulted (Cycles key left trig) = false
is_faulted (First ts) = false
is_faulted (Combine trig ts) = false
is_faulted (Limit due t) = false

abbrev pub or_left : Bool → Tree → Option Tree → Option Tree
or_left true t other = Some t
or_left false t other = other

-- the leftmost part that is done
abbrev pub first_over : Trees → Option Tree
first_over NoTree = None
first_over (Then t ts) = or_left (is_over t) t (first_over ts)

-- the leftmost part that is done with a fault
abbrev pub first_faulted : Trees → Option Tree
first_faulted NoTree = None
first_faulted (Then t ts) = or_left (is_faulted t) t (first_faulted ts)

abbrev pub are_over : Trees → Bool
are_over NoTree = true
are_over (Then t ts) = is_over t && are_over ts

-- A First is done when a part is done, with the result of the leftmost part that is.
abbrev pub first_by : Option Tree → Trees → Tree
first_by (Some t) ts = t
first_by None ts = First ts

abbrev pub first_of : Trees → Tree
first_of ts = first_by (first_over ts) ts

-- A Combine is done when a part is done with a fault, with the leftmost such fault, or when all parts are done, with itself.
abbrev pub combine_by : Option Tree → Bool → Trig → Trees → Tree
combine_by (Some t) all trig ts = t
combine_by None true trig ts = Over (finish.Reached trig)
combine_by None false trig ts = Combine trig ts

abbrev pub combine_of : Trig → Trees → Tree
combine_of trig ts = combine_by (first_faulted ts) (are_over ts) trig ts

-- A limit is done when its tree is done, with that result; else when its time has come, with SimTimeoutError.
abbrev pub limit_by : Bool → Bool → ℕ → Tree → Tree
limit_by true late due t = t
limit_by false true due t = Over finish.TimedOut
limit_by false false due t = Limit due t

abbrev pub limit_of : Bool → ℕ → Tree → Tree
limit_of late due t = limit_by (is_over t) late due t
