use Rattle.std.proofs.lemmas.Result.{err_from_is_err_and}
use Rattle.std.specs.Result.{result_err}
use Rattle.port_io.specs.Means.{sink_means}
use Rattle.vcd_text.specs.Spelling as meaning
use Rattle.vcd_text.specs.Told.{change_of}
use Rattle.vcd_text.proofs.PutLines.{change_goes, change_stops}
use Rattle.vcd_text.proofs.sink.VcdSink.write.Goals as goal

pub returns-in_err-write_time-clause-puts : goal.returns-in_err-write_time-clause-puts
returns-in_err-write_time-clause-puts g c =
    let q = err_from_is_err_and c.from_residual.result c.from_residual.ensures.1 in
    rw (q.1, q.2) (change_stops (sink_means g.O.Sink) c.args.self.now.out.now c.args.self.now.last (change_of c.args.change) c.in_err-write_time.field-0.0
    c.write_time.new.self.out.now c.in_err-write_time.ensures.puts)

pub returns-clause-puts : goal.returns-clause-puts
returns-clause-puts g c =
    change_goes (sink_means g.O.Sink) c.args.self.now.out.now c.args.self.now.last (change_of c.args.change) c.write_time.new.self.out.now (result_err c.put_made.result)
    c.put_made.new.out c.in_ok-write_time.ensures.puts (c.put_made.ensures.puts (meaning.value_line c.args.change.signal c.args.change.digits.now) c.value_line-value.ensures)
