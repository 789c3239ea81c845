-- A means of proof: how an accepted tests file is shown, for the test program of checks: its functions by number, how many tests it has,
-- and the tests in order.
use Rattle.std.specs.Prelude.{ℕ, ◌-◌, nat_lt, true, false, Bool, List, [], ◌∷◌, ◌++◌, length, take, slice_get, Option, Some, None, codes, if◌then◌else◌}
use Rattle.std.specs.Fmt.{decimal, signed_decimal}
use Rattle.std.specs.List.{concat, flat_map}
use Rattle.std.specs.Option.{option_map_or}
use Rattle.py_syntax.specs.StatementTables.{fault_name}
use Rattle.py_syntax.specs.declared.constant.Const.{Const}
use Rattle.py_syntax.specs.declared.constant.Const.TheVariants as constant
use Rattle.py_syntax.specs.declared.fault_kind.FaultKind.{FaultKind}
use Rattle.test_meaning.specs.Body.BodyTrees.{Function, Limit, Case, TestFile}

-- ---- constants

abbrev pub truth_text : Bool → List ℕ
truth_text true = codes "True"
truth_text false = codes "False"

-- a text stands between quotes
abbrev pub constant_text : Const → List ℕ
constant_text constant.Absent = codes "None"
constant_text (constant.Truth b) = truth_text b
constant_text (constant.Whole number) = signed_decimal number
constant_text (constant.Text bytes) = concat (codes "'" ∷ bytes ∷ codes "'" ∷ [])
constant_text (constant.Named name) = name

-- ---- functions

-- behind a blank
abbrev pub spaced : List ℕ → List ℕ
spaced text = codes " " ++ text

-- a function's parameters, and behind `/` the other names that it assigns
abbrev pub function_text : Function → List ℕ
function_text f = concat (codes "def" ∷ flat_map spaced f.parameters ∷ codes " /" ∷ flat_map spaced f.others ∷ codes "; " ∷ [])

-- ---- tests

abbrev pub spaced_constant : Const → List ℕ
spaced_constant c = spaced (constant_text c)

abbrev pub time_text : Option Limit → List ℕ
time_text None = []
time_text (Some l) = concat (codes " timeout_time=" ∷ constant_text l.number ∷ codes " timeout_unit=" ∷ constant_text l.unit ∷ [])

-- what marks a test that is expected to fail, and one that is skipped
abbrev pub fail_mark : Bool → List ℕ
fail_mark true = codes " expect_fail"
fail_mark false = []

abbrev pub skip_mark : Bool → List ℕ
skip_mark true = codes " skip"
skip_mark false = []

abbrev pub kind_text : Option FaultKind → List ℕ
kind_text None = []
kind_text (Some k) = codes " expect_error=" ++ fault_name k

abbrev pub options_text : Case → List ℕ
options_text c = concat (time_text c.time ∷ fail_mark c.expect_fail ∷ kind_text c.expect_error ∷ skip_mark c.skip ∷ [])

-- a test: its name, its function's number, its arguments and its options
abbrev pub case_text : Case → List ℕ
case_text c = concat (codes "; " ∷ c.name ∷ codes "=" ∷ decimal c.function ∷ flat_map spaced_constant c.arguments ∷ options_text c ∷ [])

-- how many tests are shown from the front
abbrev pub most_shown : ℕ
most_shown = 12

-- the last test, where there are more
abbrev pub last_text : List Case → List ℕ
last_text cs = if nat_lt most_shown (length cs) then codes " .." ++ option_map_or case_text (slice_get cs (length cs - 1)) [] else []

-- the tests in front
abbrev pub front_text : List Case → List ℕ
front_text cs = flat_map case_text (take most_shown cs)

-- how many tests there are, those in front, and the last where there are more
abbrev pub cases_text : List Case → List ℕ
cases_text cs = concat (decimal (length cs) ∷ codes " tests" ∷ front_text cs ∷ last_text cs ∷ [])

-- ---- files

abbrev pub functions_text : List Function → List ℕ
functions_text fs = flat_map function_text fs

abbrev pub file_text : TestFile → List ℕ
file_text f = concat (functions_text f.functions ∷ cases_text f.cases ∷ [])
