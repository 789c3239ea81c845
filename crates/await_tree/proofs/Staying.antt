-- Leaves that stay as they are.
use Rattle.std.proofs.Common.{◌≡◌, Bool, true, false, refl}
use Rattle.std.specs.Prelude.{not}
use Rattle.await_tree.specs.declared.cause.Awaited.TheVariants as awaited
use Rattle.await_tree.specs.declared.cause.Cause.{Cause}
use Rattle.await_tree.specs.Begin.{Facts, begin, begun}
use Rattle.await_tree.specs.Fire.{fire, is_same, reach_of}
use Rattle.await_tree.specs.Staying.{is_beyond, is_on_keys}
use Rattle.await_tree.specs.Tree.{Tree, Over, Leaf, Cycles, First, Combine, Limit}

not_true : (b : Bool) → not b ≡ true → b ≡ false
not_true true h = cc
not_true false h = refl

pub beyond_stays : (c : Cause) (t : Tree) → is_beyond (reach_of c) t ≡ true → t ≡ fire c t
beyond_stays c (Over f) h = refl
beyond_stays c (Leaf on trig) h = rw (not_true (is_same (reach_of c) on) h) refl
beyond_stays c (Cycles key left trig) h = rw (not_true (is_same (reach_of c) (awaited.Key key)) h) refl
beyond_stays c (First ts) h = cc
beyond_stays c (Combine trig ts) h = cc
beyond_stays c (Limit due t) h = cc

pub keys_stay : (t : Tree) (f : Facts) → is_on_keys t ≡ true → begun t f ≡ begin t f
keys_stay (Over g) f h = refl
keys_stay (Leaf (awaited.Key key) trig) f h = refl
keys_stay (Leaf (awaited.Event event) trig) f h = cc
keys_stay (Leaf (awaited.Lock lock) trig) f h = cc
keys_stay (Leaf (awaited.Join task) trig) f h = cc
keys_stay (Cycles key left trig) f h = refl
keys_stay (First ts) f h = cc
keys_stay (Combine trig ts) f h = cc
keys_stay (Limit due t) f h = cc
