use Rattle.vcd_text.proofs.Decided.{same_changes, some_changes}
use Rattle.vcd_text.proofs.laws.changes_are_told.Goals as goal

pub returns-clause-some : goal.returns-clause-some
returns-clause-some c = some_changes

pub returns-clause-same : goal.returns-clause-same
returns-clause-same c = same_changes
