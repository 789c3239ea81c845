use Rattle.std.proofs.Common.{◌∙◌}
use Rattle.event_queue.specs.Waiting.{sorted_of}
use Rattle.event_queue.proofs.Fresh.{all_push}
use Rattle.event_queue.proofs.delayed.Delays.push.Goals as goal

pub returns-clause-is : goal.returns-clause-is
returns-clause-is c = rw c.push_back_reserved.ensures.items (all_push c.args.self.now.fresh.items (sorted_of c.args.self.now.sorted.entries) c.args.delayed.now)
