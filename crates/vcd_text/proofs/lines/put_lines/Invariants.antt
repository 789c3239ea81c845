-- What is put from here on is put behind the lines so far.
use Rattle.std.proofs.Common.{◌≤◌, Option, drop}
use Rattle.port_io.specs.Means.{PutsTo, sink_means}
use Rattle.port_io.specs.declared.ports.SinkFault.{SinkFault}
use Rattle.vcd_text.proofs.lines.put_lines.Given as goal

abbrev pub invariant-loop-at : goal.invariant-loop-at
invariant-loop-at g l = record {
  puts : (fault : Option SinkFault) (out : _) → PutsTo (sink_means g.O.Sink) l.out (drop l.at l.lines) fault out → PutsTo (sink_means g.O.Sink) l.fn.out l.lines fault out;
  count : g.O.Sink.faults l.fn.out ≤ g.O.Sink.faults l.out;
}
