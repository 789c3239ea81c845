use Rattle.std.proofs.Common.{◌≡◌, length}
use Rattle.run_view.specs.SignalPort.Queue.{IsTally, newest}
use Rattle.run_view.proofs.signal_port.queue.take_newest.Given as goal

abbrev pub invariant-stale : goal.invariant-stale
invariant-stale l = record {
  tally : IsTally l.tally l.queue.items;
  counts : newest l.queue.items ≡ newest l.fn.queue.items;
}

abbrev pub decreases-stale : goal.decreases-stale
decreases-stale l = length l.queue.items
