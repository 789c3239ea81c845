use Rattle.v_statement.proofs.Lower.{lower_least}
use Rattle.v_statement.proofs.levels.below_statement.Goals as goal

pub returns-clause-lower : goal.returns-clause-lower
returns-clause-lower c = lower_least c.args.total c.args.room c.args.place c.in_ok-below.below c.in_ok-below.ensures.less
