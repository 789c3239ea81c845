-- A means of proof: a tree that has begun, for the proofs of trees of triggers: no part of it that waits is one that would be done.
use Rattle.std.specs.Prelude.{◌≡◌, false, None}
use Rattle.await_tree.specs.Tree.{Tree, Trees, Over, Leaf, Cycles, First, Combine, Limit, NoTree, Then, is_over, first_over, first_faulted, are_over}

abbrev mutual
  pub IsSettled : Tree → Type 0
  IsSettled (Over f) = Unit {0}
  IsSettled (Leaf on trig) = Unit {0}
  IsSettled (Cycles key left trig) = Unit {0}
  IsSettled (First ts) = (first_over ts ≡ None) × AreSettled ts
  IsSettled (Combine trig ts) = (first_faulted ts ≡ None) × (are_over ts ≡ false) × AreSettled ts
  IsSettled (Limit due t) = (is_over t ≡ false) × IsSettled t

  pub AreSettled : Trees → Type 0
  AreSettled NoTree = Unit {0}
  AreSettled (Then t ts) = IsSettled t × AreSettled ts
