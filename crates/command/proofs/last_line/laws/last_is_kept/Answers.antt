use Rattle.command.proofs.LastLineLemmas.KeepingLaws.{keeps_last, keeps_last_of, none_fails}
use Rattle.command.proofs.last_line.laws.last_is_kept.Goals as goal

pub returns-clause-all : goal.returns-clause-all
returns-clause-all c = keeps_last

pub returns-clause-some : goal.returns-clause-some
returns-clause-some c = keeps_last_of

pub returns-clause-none_fails : goal.returns-clause-none_fails
returns-clause-none_fails c = none_fails
