use Rattle.port_io.specs.Means.{sink_means}
use Rattle.vcd_text.specs.Told.{change_of}
use Rattle.vcd_text.proofs.PutLines.{line_broken, line_taken, none_taken}
use Rattle.vcd_text.proofs.sink.VcdSinkSink.put.Goals as goal

pub returns-in-Ok-None-clause-taken : goal.returns-in-Ok-None-clause-taken
returns-in-Ok-None-clause-taken g c =
    none_taken (sink_means g.O.Sink) c.args.self.now c.args.bytes.now (rw c.in-Ok-None.field-0-is at c.in-Ok-None.ensures)

pub returns-in-Ok-Some-clause-taken : goal.returns-in-Ok-Some-clause-taken
returns-in-Ok-Some-clause-taken g c =
    line_taken (sink_means g.O.Sink) c.args.self.now c.args.bytes.now (change_of c.in-Ok-Some.change) (rw c.in-Ok-Some.field-0-is at c.in-Ok-Some.ensures)
    c.write.new.self c.write.ensures.same c.write.result c.write.ensures.puts c.write.ensures.last

pub returns-in-Ok-Some-clause-broken : goal.returns-in-Ok-Some-clause-broken
returns-in-Ok-Some-clause-broken g c =
    line_broken (sink_means g.O.Sink) c.args.self.now c.args.bytes.now (change_of c.in-Ok-Some.change) (rw c.in-Ok-Some.field-0-is at c.in-Ok-Some.ensures)
    c.write.new.self c.write.ensures.same c.write.result c.write.ensures.puts
