-- The tree of a trigger before it begins, and why it may not begin (cocotb 1.8, "Triggers").
use Rattle.std.specs.Prelude.{ℕ, ◌+◌, nat_lt, Bool, true, false, List, [], ◌∷◌, Option, None, Some, if◌then◌else◌}
use Rattle.gpi.specs.State.{is_end}
use Rattle.gpi.specs.declared.types.Key.{Key}
use Rattle.gpi.specs.declared.types.Key.TheVariants as key
use Rattle.gpi.specs.declared.types.Region.{Region}
use Rattle.gpi.specs.declared.types.SigId.{SigId}
use Rattle.py_syntax.specs.declared.fault_kind.FaultKind.TheVariants.{OverflowError, RuntimeError}
use Rattle.py_value.specs.Answer.{plain_fault}
use Rattle.py_value.specs.Limits.{step_limit}
use Rattle.py_value.specs.declared.value.Fault.{Fault}
use Rattle.py_value.specs.Trigger as trigger
use Rattle.await_tree.specs.declared.cause.Awaited.{Awaited}
use Rattle.await_tree.specs.declared.cause.Awaited.TheVariants as awaited
use Rattle.await_tree.specs.declared.finish.Finish.TheVariants as finish
use Rattle.await_tree.specs.Tree.{Tree, Trees, Over, Leaf, Cycles, First, Combine, Limit, NoTree, Then, leaves}

-- ---- the tree of a trigger

-- the edge of a ClockCycles
abbrev pub edge : Bool → SigId → Key
edge true sig = key.Rise sig
edge false sig = key.Fall sig

-- the one tree of a limit; a sound trigger has one there
abbrev pub only : Trees → Tree
only NoTree = Over finish.TimedOut
only (Then t ts) = t

-- A Timer is due after its steps, from now on, and so is the time of a limit.
abbrev mutual
  pub tree_of : trigger.Trig → ℕ → Tree
  tree_of (trigger.Made id form) now = form_tree form (trigger.Made id form) now

  pub form_tree : trigger.Form → trigger.Trig → ℕ → Tree
  form_tree (trigger.Time steps) trig now = Leaf (awaited.Key (key.At (now + steps))) trig
  form_tree (trigger.Rise sig) trig now = Leaf (awaited.Key (key.Rise sig)) trig
  form_tree (trigger.Fall sig) trig now = Leaf (awaited.Key (key.Fall sig)) trig
  form_tree (trigger.Change sig) trig now = Leaf (awaited.Key (key.Change sig)) trig
  form_tree trigger.ReadWrite trig now = Leaf (awaited.Key key.ReadWrite) trig
  form_tree trigger.ReadOnly trig now = Leaf (awaited.Key key.ReadOnly) trig
  form_tree trigger.NextStep trig now = Leaf (awaited.Key key.NextStep) trig
  form_tree (trigger.Cycles sig count rising) trig now = Cycles (edge rising sig) count trig
  form_tree (trigger.Event event) trig now = Leaf (awaited.Event event) trig
  form_tree (trigger.Lock lock) trig now = Leaf (awaited.Lock lock) trig
  form_tree (trigger.Join task) trig now = Leaf (awaited.Join task) trig
  form_tree (trigger.First ts) trig now = First (all_trees ts now)
  form_tree (trigger.Combine ts) trig now = Combine trig (all_trees ts now)
  form_tree (trigger.Limit inner steps) trig now = Limit (now + steps) (only (all_trees inner now))

  pub all_trees : trigger.Trigs → ℕ → Trees
  all_trees trigger.NoTrig now = NoTree
  all_trees (trigger.Then t ts) now = Then (tree_of t now) (all_trees ts now)

-- ---- the check

-- the latest due time is also the longest time that is waited for
abbrev pub last_time : ℕ
last_time = step_limit

-- why a leaf may not begin in a region: it would be due too late, or it is on a phase that is over
abbrev pub refusal : Awaited → Region → Option Fault
refusal (awaited.Key (key.At due)) phase = if nat_lt last_time due then Some (plain_fault OverflowError) else None
refusal (awaited.Key key.ReadWrite) phase = if is_end phase then Some (plain_fault RuntimeError) else None
refusal (awaited.Key key.ReadOnly) phase = if is_end phase then Some (plain_fault RuntimeError) else None
refusal _ phase = None

abbrev pub or_fault : Option Fault → Option Fault → Option Fault
or_fault (Some f) other = Some f
or_fault None other = other

-- the fault of the first leaf, from the left, that may not begin
abbrev pub refusals : List Awaited → Region → Option Fault
refusals [] phase = None
refusals (a ∷ ws) phase = or_fault (refusal a phase) (refusals ws phase)

abbrev pub check : trigger.Trig → ℕ → Region → Option Fault
check trig now phase = refusals (leaves (tree_of trig now)) phase
