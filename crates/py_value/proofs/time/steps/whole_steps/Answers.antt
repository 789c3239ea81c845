use Rattle.py_value.proofs.TimeLemmas.Division.{refused}
use Rattle.py_value.proofs.time.steps.whole_steps.Goals as goal

pub returns-else-rest-step-eq0 : goal.returns-else-rest-step-eq0
returns-else-rest-step-eq0 c = refused c.args.n c.args.fs c.args.step_fs c.if-rest-step-eq0.false
