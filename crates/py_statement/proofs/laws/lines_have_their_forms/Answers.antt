use Rattle.py_statement.proofs.LineLaws.{line_fits_is, line_again, line_high_is, line_none_is}
use Rattle.py_statement.proofs.laws.lines_have_their_forms.Goals as goal

pub returns-clause-fits : goal.returns-clause-fits
returns-clause-fits c = line_fits_is

pub returns-clause-again : goal.returns-clause-again
returns-clause-again c = line_again

pub returns-clause-high : goal.returns-clause-high
returns-clause-high c = line_high_is

pub returns-clause-none : goal.returns-clause-none
returns-clause-none c = line_none_is
