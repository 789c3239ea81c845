use Rattle.std.proofs.Common.{◌≤◌, ◌-◌, length, Result}
use Rattle.port_io.specs.Means.{sink_means}
use Rattle.port_io.specs.declared.ports.SinkFault.{SinkFault}
use Rattle.command.specs.Regression.Stages.{HasPlace, Skips}
use Rattle.command.specs.declared.regression.progress.Progress.{Progress}
use Rattle.command.proofs.regression.lines.skip_tests.Given as goal

-- what is told from here on is told from the start
abbrev pub invariant-skips : goal.invariant-skips
invariant-skips g l = record {
  skips : (r : Result Progress SinkFault) (out : _) → Skips (sink_means g.O.Sink) l.time l.cases l.so_far r l.out out
      → Skips (sink_means g.O.Sink) l.time l.cases l.fn.progress r l.fn.out out;
  within : l.so_far.at ≤ length l.cases;
  place : HasPlace l.so_far;
}

abbrev pub decreases-skips : goal.decreases-skips
decreases-skips g l = length l.cases - l.so_far.at
