-- The lines of a run. Each ends with a line feed, and numbers are decimal.
use Rattle.std.specs.Prelude.{ℕ, List, [], ◌∷◌, ◌++◌, Option, None, Some, codes}
use Rattle.std.specs.Fmt.{decimal}
use Rattle.four_value.specs.declared.Digit.{Digit}
use Rattle.four_value.specs.Vector.{digit_letters}
use Rattle.py_syntax.specs.StatementTables.{fault_name}
use Rattle.py_syntax.specs.declared.statement.LogLevel.{LogLevel}
use Rattle.py_syntax.specs.declared.statement.LogLevel.TheVariants as level
use Rattle.py_value.specs.declared.value.Fault.{Fault}

abbrev pub line : List ℕ → List ℕ
line text = text ++ 10 ∷ []

-- a line that begins with the time, in steps
abbrev pub timed_line : ℕ → List ℕ → List ℕ
timed_line time text = line (decimal time ++ codes " " ++ text)

abbrev pub test_line : ℕ → List ℕ → List ℕ
test_line time name = timed_line time (codes "TEST " ++ name)

-- a level as it stands in a line
abbrev pub level_word : LogLevel → List ℕ
level_word level.Info = codes "INFO"
level_word level.Warning = codes "WARNING"
level_word level.Error = codes "ERROR"

abbrev pub log_line : ℕ → LogLevel → List ℕ → List ℕ
log_line time l text = timed_line time (level_word l ++ codes " " ++ text)

-- the signal of this path has this value from now on, the highest digit first
abbrev pub sig_line : ℕ → List ℕ → List Digit → List ℕ
sig_line time path digits = timed_line time (codes "SIG " ++ path ++ codes " " ++ digit_letters digits)

abbrev pub skip_line : ℕ → List ℕ → List ℕ
skip_line time name = timed_line time (codes "SKIP " ++ name)

-- a test passed, or failed for this reason
abbrev pub verdict_line : ℕ → List ℕ → Option (List ℕ) → List ℕ
verdict_line time name None = timed_line time (codes "PASS " ++ name)
verdict_line time name (Some reason) = timed_line time (codes "FAIL " ++ name ++ codes " (" ++ reason ++ codes ")")

-- the closing line, with how many tests there were, and how many of them passed, failed and were skipped
abbrev pub report_line : ℕ → ℕ → ℕ → ℕ → ℕ → List ℕ
report_line tests pass fail skip time =
    line (codes "** TESTS=" ++ decimal tests ++ codes " PASS=" ++ decimal pass ++ codes " FAIL=" ++ decimal fail
    ++ codes " SKIP=" ++ decimal skip ++ codes " TIME=" ++ decimal time ++ codes " **")

-- what stands in its place where the budget is reached
abbrev pub budget_line : ℕ → List ℕ
budget_line budget = line (codes "BUDGET " ++ decimal budget)

-- ---- reasons

-- a kind of fault, and what the fault says, if it says anything
abbrev pub with_text : List ℕ → List ℕ → List ℕ
with_text kind [] = kind
with_text kind (byte ∷ bytes) = kind ++ codes ": " ++ byte ∷ bytes

abbrev pub fault_text : Fault → List ℕ
fault_text fault = with_text (fault_name fault.kind) fault.text
