use Rattle.std.proofs.Common.{rules}
use Rattle.task_core.proofs.statement.uses.use_value.Goals as goal

pub returns-in-Times : goal.returns-in-Times
returns-in-Times g c = let then = c.wait_started.ensures (g.V.Look.view c.args.view.now) in search rules
