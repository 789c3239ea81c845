-- What the leaves of a known tree wait for is known.
use Rattle.std.proofs.Common.{List, [], ◌∷◌, ◌++◌}
use Rattle.gpi.specs.declared.types.Key.TheVariants.{At}
use Rattle.py_evaluate.specs.Attribute.Look.{View}
use Rattle.await_tree.specs.Tree.{Tree, Trees, Over, Leaf, Cycles, First, Combine, Limit, NoTree, Then, leaves, all_leaves}
use Rattle.await_tree.specs.declared.cause.Awaited.{Awaited}
use Rattle.await_tree.specs.declared.cause.Awaited.TheVariants as awaited
use Rattle.rig_model.specs.Run.Known.{KnowsAwaited, KnowsTree, KnowsTrees}

module _ (v : View) where
  abbrev pub AllKnown : List Awaited → Type 0
  AllKnown [] = Unit {0}
  AllKnown (a ∷ more) = KnowsAwaited v a × AllKnown more

  known_more : (xs ys : List Awaited) → AllKnown xs → AllKnown ys → AllKnown (xs ++ ys)
  known_more [] ys h k = k
  known_more (x ∷ xs) ys h k = (h.0, known_more xs ys h.1 k)

  mutual
    pub leaves_known : (t : Tree) → KnowsTree v t → AllKnown (leaves t)
    leaves_known (Over f) h = tt
    leaves_known (Leaf on trig) h = (h.0, tt)
    leaves_known (Cycles k left trig) h = (h.0, tt)
    leaves_known (First ts) h = all_known ts h
    leaves_known (Combine trig ts) h = all_known ts h.1
    leaves_known (Limit due t) h = known_more (leaves t) (awaited.Key (At due) ∷ []) (leaves_known t h) (tt, tt)

    all_known : (ts : Trees) → KnowsTrees v ts → AllKnown (all_leaves ts)
    all_known NoTree h = tt
    all_known (Then t ts) h = known_more (leaves t) (all_leaves ts) (leaves_known t h.0) (all_known ts h.1)
