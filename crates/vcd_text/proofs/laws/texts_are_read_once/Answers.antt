use Rattle.vcd_text.proofs.ReadLaws.{read_once, read_or_refused, refused_once}
use Rattle.vcd_text.proofs.laws.texts_are_read_once.Goals as goal

pub returns-clause-changes : goal.returns-clause-changes
returns-clause-changes c = read_once

pub returns-clause-refused : goal.returns-clause-refused
returns-clause-refused c = refused_once

pub returns-clause-apart : goal.returns-clause-apart
returns-clause-apart c = read_or_refused
