use Rattle.v_syntax.proofs.MarkLaws.{longest, none}
use Rattle.v_syntax.proofs.mark.longest_mark.Goals as goal

pub returns-clause-longest : goal.returns-clause-longest
returns-clause-longest c = longest

pub returns-clause-none : goal.returns-clause-none
returns-clause-none c = none
