-- A means of proof: the trees that a task may wait for, for the proofs of the keepers of waiting tasks.
use Rattle.std.specs.Prelude.{◌≡◌, ℕ, false}
use Rattle.py_value.specs.Trigger.{Trig}
use Rattle.await_tree.specs.Begin.{Facts, begin}
use Rattle.await_tree.specs.Check.{tree_of}
use Rattle.await_tree.specs.Tree.{Tree, is_over}

-- It is what the tree of a trigger came to when it began, and isn't done.
pub record IsBegun (tree : Tree) : Type 0 where
  pub trig : Trig
  pub now : ℕ
  pub facts : Facts
  pub is : tree ≡ (begin (tree_of trig now) facts).tree
  pub waits : is_over tree ≡ false
