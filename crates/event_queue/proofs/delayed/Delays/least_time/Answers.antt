use Rattle.std.proofs.Common.{◌∙◌}
use Rattle.event_queue.specs.Waiting.{sorted_of}
use Rattle.event_queue.proofs.Fresh.{least_all}
use Rattle.event_queue.proofs.delayed.Delays.least_time.Goals as goal

pub returns : goal.returns
returns c =
    c.sooner.ensures ∙ rw (c.least_of.ensures, c.first_time.ensures.least) (least_all c.args.self.now.fresh.items (sorted_of c.args.self.now.sorted.entries))
