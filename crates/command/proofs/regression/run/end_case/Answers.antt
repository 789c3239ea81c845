use Rattle.port_io.specs.Means.{sink_means}
use Rattle.port_io.proofs.PartLaws.{part_none}
use Rattle.command.proofs.regression.run.end_case.Goals as goal

pub returns-in-Err-clause-judges : goal.returns-in-Err-clause-judges
returns-in-Err-clause-judges g c = λ case h. record {
  puts = part_none (sink_means g.O.Sink).takes (sink_means g.O.Sink).told c.args.out.now _;
  judged = tt;
}
