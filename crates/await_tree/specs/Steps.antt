-- What a tree answers to what it is told, and what is left of it then (cocotb 1.8, "Triggers").
use Rattle.std.specs.Prelude.{◌≡◌, Option, Some}
use Rattle.py_value.specs.declared.value.Fault.{Fault}
use Rattle.await_tree.specs.declared.cause.Step.{Step}
use Rattle.await_tree.specs.declared.cause.Step.TheVariants.{Still, Done}
use Rattle.await_tree.specs.declared.cause.TreeFault.{TreeFault}
use Rattle.await_tree.specs.declared.cause.TreeFault.TheVariants.{Raised, OutOfMemory}
use Rattle.await_tree.specs.Tree.{Tree, Over, Leaf, Cycles, First, Combine, Limit, NoTree, given_of}

-- a tree that is done gives its result, and another waits
abbrev pub step_of : Tree → Step
step_of (Over f) = Done (given_of f)
step_of (Leaf on trig) = Still
step_of (Cycles key left trig) = Still
step_of (First ts) = Still
step_of (Combine trig ts) = Still
step_of (Limit due t) = Still

-- a tree whose result was handed out: nothing of it is left
abbrev pub gone : Tree
gone = First NoTree

abbrev pub rest_of : Tree → Tree
rest_of (Over f) = gone
rest_of (Leaf on trig) = Leaf on trig
rest_of (Cycles key left trig) = Cycles key left trig
rest_of (First ts) = First ts
rest_of (Combine trig ts) = Combine trig ts
rest_of (Limit due t) = Limit due t

-- no tree is made for want of memory, or since a leaf may not begin
abbrev pub IsFaultOf : Option Fault → TreeFault → Type 0
IsFaultOf refusal (Raised fault) = refusal ≡ Some fault
IsFaultOf refusal OutOfMemory = Unit {0}
