use Rattle.std.proofs.Common.{ap, Err}
use Rattle.port_io.specs.Means.{sink_means}
use Rattle.scheduler.proofs.PutLaws.{put_one}
use Rattle.scheduler.proofs.puts.put_line.Goals as goal

pub returns-in-Err : goal.returns-in-Err
returns-in-Err g c = put_one (sink_means g.O.Sink) c.in-Err.fault c.args.out.now _ _ (λ e. c.in-Err.ensures.broken (ap Err e)) c.in-Err.ensures.part
