-- A means of proof: which form a line of a function's body has, for the proofs of Python's parser.
use Rattle.std.specs.Prelude.{ℕ, ◌≡◌, nat_le, List, Option, Some, None, Result, Ok, Err, if◌then◌else◌}
use Rattle.py_syntax.specs.StatementTrees.{BodyLine, view_line}
use Rattle.py_syntax.specs.declared.statement.BodyLine as code
use Rattle.py_syntax.specs.declared.token.Token.{Token}
use Rattle.py_statement.specs.Reading.{body_of}
use Rattle.py_statement.specs.declared.fault.LineError.{LineError}
use Rattle.py_statement.specs.declared.fault.LineError.TheVariants as errors

-- a form within the limit on heights, one that is too high, or none
pub data LineForm : Type 0 where
  fits : BodyLine → LineForm
  too_high : LineForm
  no_form : LineForm

abbrev pub form_by : ℕ → Option (BodyLine × ℕ) → LineForm
form_by limit None = no_form
form_by limit (Some x) = if nat_le x.1 limit then fits x.0 else too_high

unfoldable pub line_of : ℕ → List Token → LineForm
line_of limit ts = form_by limit (body_of limit ts)

abbrev pub Answers : Result code.BodyLine LineError → LineForm → Type 0
Answers (Ok l) form = form ≡ fits (view_line l)
Answers (Err errors.NoForm) form = form ≡ no_form
Answers (Err errors.TooHigh) form = form ≡ too_high
Answers (Err errors.OutOfMemory) form = Unit {0}
