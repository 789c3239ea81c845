-- A means of proof: the registered keys of the plain simulator, and what firing keys leaves of them.
use Rattle.std.specs.Prelude.{◌≡◌, ℕ, List}
use Rattle.gpi.specs.declared.types.Counts.{Counts}
use Rattle.gpi.specs.declared.types.Key.{Key}
use Rattle.gpi.specs.Keys.{Keys, IsWithout, raised_by}
use Rattle.kernel_base.specs.TimeSets.{times_of}
use Rattle.callback_book.specs.Books as book
use Rattle.list_kernel.specs.declared.registered.Registered.{Registered}

abbrev pub keys_of : Registered → Keys
keys_of r = book.keys_with (times_of r.times) r.book

abbrev pub counts_of : Registered → Counts
counts_of r = book.counts_of r.book

-- of how many signals there are keys
abbrev pub signals_of : Registered → ℕ
signals_of r = book.signals_of r.book

-- the keys are fired
pub record Fires (fired : List Key) (before : Registered) (after : Registered) : Type 0 where
  pub keys : IsWithout fired (keys_of before) (keys_of after)
  pub counts : counts_of after ≡ record (counts_of before) { fired = raised_by fired (counts_of before).fired }
  pub signals : signals_of after ≡ signals_of before
