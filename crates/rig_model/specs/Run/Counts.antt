-- How many keys were registered, removed and fired, effect by effect.
use Rattle.std.specs.Prelude.{List}
use Rattle.gpi.specs.declared.types.Key.{Key}
use Rattle.await_tree.specs.WaitList.Counts.{counts_after}
use Rattle.rig_model.specs.Run.Rig.{Rig, awaited}

-- An effect that fired these keys, counted: the configuration before it, and the one after it.
abbrev pub counted : List Key → Rig → Rig → Rig
counted fired before after = record after { counts = counts_after fired (awaited before) (awaited after) before.counts }
