-- A means of proof: calls that remove keys, and register none.
use Rattle.std.specs.Prelude.{◌≡◌, true, List, []}
use Rattle.gpi.specs.Content.{Content}
use Rattle.gpi.specs.Keys.{among}
use Rattle.gpi.specs.declared.types.Key.{Key}
use Rattle.await_tree.specs.WaitList.Keys.{Rekeyed}

-- A call led from one list of named keys to another, which has no more, and asked for no key.
pub record Sheds (before after : Content) (old new : List Key) : Type 0 where
  pub rekeyed : Rekeyed before after [] old new
  pub less : (k : Key) → among k new ≡ true → among k old ≡ true
