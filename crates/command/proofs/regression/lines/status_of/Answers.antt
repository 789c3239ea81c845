use Rattle.std.proofs.Common.{rules}
use Rattle.command.proofs.RegressionLemmas.Puts.{failed_status, passed_status}
use Rattle.command.proofs.regression.lines.status_of.Goals as goal

pub returns-then-tally-eq0 : goal.returns-then-tally-eq0
returns-then-tally-eq0 c = λ verdicts e. passed_status c.args.tally verdicts (search rules) e

pub returns-else-tally-eq0 : goal.returns-else-tally-eq0
returns-else-tally-eq0 c = λ verdicts e. failed_status c.args.tally verdicts (λ z. search rules) e
