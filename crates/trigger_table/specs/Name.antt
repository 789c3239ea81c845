-- A means of proof: what a leaf waits for, by plain numbers.
use Rattle.gpi.specs.declared.types.Key.{Key}
use Rattle.gpi.specs.declared.types.Key.TheVariants as key
use Rattle.await_tree.specs.declared.cause.Awaited.{Awaited}
use Rattle.await_tree.specs.declared.cause.Awaited.TheVariants as awaited
use Rattle.trigger_table.specs.declared.name.Name.{Name}
use Rattle.trigger_table.specs.declared.name.Name.TheVariants as name

abbrev pub key_name : Key → Name
key_name (key.At time) = name.At time
key_name (key.Rise sig) = name.Rise sig.0
key_name (key.Fall sig) = name.Fall sig.0
key_name (key.Change sig) = name.Change sig.0
key_name key.ReadWrite = name.ReadWrite
key_name key.ReadOnly = name.ReadOnly
key_name key.NextStep = name.NextStep

abbrev pub name_of : Awaited → Name
name_of (awaited.Key k) = key_name k
name_of (awaited.Event event) = name.Event event.0
name_of (awaited.Lock lock) = name.Lock lock.0
name_of (awaited.Join task) = name.Join task.0
