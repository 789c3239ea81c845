use Rattle.std.proofs.Common.{◌∙◌}
use Rattle.list_kernel.specs.Registered.{keys_of}
use Rattle.list_kernel.proofs.Queues.{soonest_is}
use Rattle.list_kernel.proofs.kernel.ListKernel.next_time.Goals as goal

pub returns : goal.returns
returns c = c.soonest.ensures ∙ rw (c.least_time.ensures, c.deref.ensures.value) (soonest_is c.args.self.now.updates.delayed.items (keys_of c.args.self.now.book).times)
