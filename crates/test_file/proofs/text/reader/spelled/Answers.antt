-- The module that the lines spell, or why none does.
use Rattle.test_file.proofs.text.reader.spelled.Goals as goal

pub returns-in-Ok-clause-is : goal.returns-in-Ok-clause-is
returns-in-Ok-clause-is c =
    λ text has. record { lines = c.args.lines.now; has = has; spells = c.in-Ok.ensures.found.0; is_within = c.in-Ok.ensures.found.1 }

pub returns-in-Err-clause-refused : goal.returns-in-Err-clause-refused
returns-in-Err-clause-refused c = λ text short has. c.form_fault.ensures text c.args.lines.now short has c.in-Err.ensures.refused
