-- A means of proof: what the events, locks and tasks of a test tell a tree that begins, for the proofs of the runner.
use Rattle.await_tree.specs.Begin.{Facts}
use Rattle.await_tree.specs.SyncObjects.States.{States}
use Rattle.await_tree.specs.EndedTasks.Endings.{Endings, all_failed}

abbrev pub facts_of : States → Endings → Facts
facts_of objects endings = record { events = objects.events; locks = objects.locks; tasks = all_failed endings }

-- the events and the locks that are told
abbrev pub objects_of : Facts → States
objects_of facts = record { events = facts.events; locks = facts.locks }
