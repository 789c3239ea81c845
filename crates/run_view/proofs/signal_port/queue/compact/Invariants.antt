use Rattle.std.proofs.Common.{◌≡◌}
use Rattle.run_view.specs.SignalPort.Queue.{IsTally, newest, turns}
use Rattle.run_view.proofs.signal_port.queue.compact.Given as goal

abbrev pub invariant-left : goal.invariant-left
invariant-left l = record {
  tally : IsTally l.tally l.queue.items;
  counts : turns l.left l.queue.items ≡ newest l.fn.queue.items;
}

abbrev pub decreases-left : goal.decreases-left
decreases-left l = l.left
