use Rattle.command.proofs.RegressionLemmas.Skipping.{skip_at}
use Rattle.command.proofs.regression.lines.is_skipped.Goals as goal

pub returns-then-at-len : goal.returns-then-at-len
returns-then-at-len c = skip_at c.args.cases.now c.args.at c.get.result.now c.get.ensures
