use Rattle.std.proofs.Common.{◌∙◌}
use Rattle.gpi.specs.State.{delayed_times}
use Rattle.event_queue.specs.Queues.{held}
use Rattle.kernel_base.proofs.TimeSets.{least_both}
use Rattle.fast_kernel.proofs.simulation.Simulation.next_time.Goals as goal

pub returns : goal.returns
returns c =
    c.sooner.ensures ∙ rw (c.least_delayed.ensures, c.least_time.ensures) (least_both (delayed_times (held c.args.self.now.queue).delayed) (held c.args.self.now.queue).times)
