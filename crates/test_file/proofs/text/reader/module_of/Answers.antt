-- The module of the text's lines, or why it has none.
use Rattle.test_file.proofs.TextLemmas.FaultLaws.{read_lines}
use Rattle.test_file.proofs.text.reader.module_of.Goals as goal

pub returns-in-Ok-clause-is : goal.returns-in-Ok-clause-is
returns-in-Ok-clause-is c = c.spelled.ensures.is c.args.text.now (read_lines c.args.text.now c.in-Ok.lines c.in-Ok.ensures.made)

pub returns-in-Ok-clause-refused : goal.returns-in-Ok-clause-refused
returns-in-Ok-clause-refused c = c.spelled.ensures.refused c.args.text.now c.requires (read_lines c.args.text.now c.in-Ok.lines c.in-Ok.ensures.made)

pub returns-in-Err-clause-refused : goal.returns-in-Err-clause-refused
returns-in-Err-clause-refused c = c.line_fault.ensures c.args.text.now c.requires c.in-Err.ensures.made
