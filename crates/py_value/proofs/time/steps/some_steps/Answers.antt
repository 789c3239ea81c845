use Rattle.py_value.proofs.TimeLemmas.Division.{few_known, none_known}
use Rattle.py_value.proofs.time.steps.some_steps.Goals as goal

pub returns-then-count-eq0 : goal.returns-then-count-eq0
returns-then-count-eq0 c = λ e. none_known c.args.count c.if-count-eq0.true

pub returns-else-count-eq0 : goal.returns-else-count-eq0
returns-else-count-eq0 c = λ e. rw c.few.ensures (few_known c.args.count c.args.odd c.if-count-eq0.false e)
