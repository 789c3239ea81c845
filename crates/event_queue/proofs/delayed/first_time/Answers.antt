use Rattle.event_queue.specs.Waiting.{sorted_of}
use Rattle.event_queue.proofs.Fresh.{first_of, first_is_least}
use Rattle.event_queue.proofs.delayed.first_time.Goals as goal

pub returns-in-Some-clause-first : goal.returns-in-Some-clause-first
returns-in-Some-clause-first c = first_of c.args.sorted.now.entries c.in-Some.key.now c.in-Some.field-0-1.now c.in-Some.ensures.first

pub returns-in-Some-clause-least : goal.returns-in-Some-clause-least
returns-in-Some-clause-least c =
    first_is_least _ (sorted_of c.args.sorted.now.entries) (first_of c.args.sorted.now.entries c.in-Some.key.now c.in-Some.field-0-1.now c.in-Some.ensures.first) c.requires
