use Rattle.command.proofs.AlikeRuns.{alike_runs, alike_written}
use Rattle.command.proofs.laws.alike_designs_run_alike.Goals as goal

pub returns : goal.returns
returns c = λ functions trace a b alike seed cases budget run is_run. record {
  is_run = alike_runs functions trace a b alike seed cases budget run is_run;
  writes = alike_written functions trace a b alike budget run;
}
