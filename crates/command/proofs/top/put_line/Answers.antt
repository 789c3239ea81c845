use Rattle.std.specs.Result.{result_err}
use Rattle.port_io.specs.Means.{sink_means}
use Rattle.scheduler.proofs.PutLaws.{put_done}
use Rattle.command.proofs.top.put_line.Goals as goal

pub returns : goal.returns
returns g c = record {
  fault = result_err c.put-put.result;
  puts = put_done (sink_means g.O.Sink) c.args.out.now c.args.line.now c.put-put.result c.put-put.new.self c.put-put.ensures.taken c.put-put.ensures.broken c.put-put.ensures.part;
  status_is = c.after.ensures;
}
