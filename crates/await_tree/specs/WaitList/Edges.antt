-- A means of proof: the counted keys of a tree are edges, so one that has just fired is registered again without memory.
use Rattle.std.specs.Prelude.{Bool, true, false, ◌&&◌}
use Rattle.gpi.specs.declared.types.Key.{Key}
use Rattle.gpi.specs.declared.types.Key.TheVariants as key
use Rattle.await_tree.specs.Tree.{Tree, Trees, Over, Leaf, Cycles, First, Combine, Limit, NoTree, Then}

abbrev pub is_edge : Key → Bool
is_edge (key.At time) = false
is_edge (key.Rise sig) = true
is_edge (key.Fall sig) = true
is_edge (key.Change sig) = false
is_edge key.ReadWrite = false
is_edge key.ReadOnly = false
is_edge key.NextStep = false

abbrev mutual
  pub has_edges : Tree → Bool
  has_edges (Over f) = true
  has_edges (Leaf on trig) = true
  has_edges (Cycles key left trig) = is_edge key
  has_edges (First ts) = have_edges ts
  has_edges (Combine trig ts) = have_edges ts
  has_edges (Limit due t) = has_edges t

  pub have_edges : Trees → Bool
  have_edges NoTree = true
  have_edges (Then t ts) = has_edges t && have_edges ts
