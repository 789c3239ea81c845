use Rattle.py_statement.proofs.LineLaws.{one_line_law}
use Rattle.py_statement.proofs.laws.one_form.Goals as goal

pub returns : goal.returns
returns c = one_line_law
