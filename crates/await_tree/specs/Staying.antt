-- A means of proof: leaves that stay as they are, which the code leaves where they stand.
use Rattle.std.specs.Prelude.{Bool, true, false, not}
use Rattle.await_tree.specs.declared.cause.Awaited.{Awaited}
use Rattle.await_tree.specs.declared.cause.Awaited.TheVariants as awaited
use Rattle.await_tree.specs.Fire.{is_same}
use Rattle.await_tree.specs.Tree.{Tree, Over, Leaf, Cycles, First, Combine, Limit}

-- one leaf, or a count of edges, that waits for something else
abbrev pub is_beyond : Awaited → Tree → Bool
is_beyond a (Over f) = false
is_beyond a (Leaf on trig) = not (is_same a on)
is_beyond a (Cycles key left trig) = not (is_same a (awaited.Key key))
is_beyond a (First ts) = false
is_beyond a (Combine trig ts) = false
is_beyond a (Limit due t) = false

-- it is on a key
abbrev pub is_key : Awaited → Bool
is_key (awaited.Key key) = true
is_key (awaited.Event event) = false
is_key (awaited.Lock lock) = false
is_key (awaited.Join task) = false

-- one leaf on a key, or a count of edges
abbrev pub is_on_keys : Tree → Bool
is_on_keys (Over f) = false
is_on_keys (Leaf on trig) = is_key on
is_on_keys (Cycles key left trig) = true
is_on_keys (First ts) = false
is_on_keys (Combine trig ts) = false
is_on_keys (Limit due t) = false
