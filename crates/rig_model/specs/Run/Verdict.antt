-- What the report says of a test, by how it ended and by its options (cocotb 1.8, `cocotb.test`: `expect_fail`, `expect_error`).
use Rattle.std.specs.Prelude.{ℕ, Bool, true, false, ◌||◌, ◌&&◌, List, ◌++◌, Option, None, Some, codes, count_by, length, if◌then◌else◌}
use Rattle.gpi.specs.declared.design.Flat.{Flat}
use Rattle.py_syntax.specs.StatementTables.{fault_name}
use Rattle.py_syntax.specs.declared.fault_kind.FaultKind.{FaultKind}
use Rattle.py_syntax.specs.declared.fault_kind.FaultKind.TheVariants.{AssertionError}
use Rattle.py_value.specs.declared.value.Fault.{Fault}
use Rattle.py_value.specs.Operator.Identity.{same_kind}
use Rattle.test_meaning.specs.Body.BodyTrees.{Case}
use Rattle.rig_model.specs.Task.Leaving.{catches_kind}
use Rattle.rig_model.specs.Run.Line.{fault_text, report_line}
use Rattle.rig_model.specs.Run.Rig.{path_of}
use Rattle.rig_model.specs.declared.run.outcome.Outcome.{Outcome}
use Rattle.rig_model.specs.declared.run.outcome.Outcome.TheVariants.{Normal, Raised, ReadOnlyWrite, Stalled}
use Rattle.rig_model.specs.declared.run.outcome.Verdict.{Verdict}
use Rattle.rig_model.specs.declared.run.outcome.Verdict.TheVariants.{Pass, Fail, Skip}

-- why a test fails whose own task returned; where both options stand, `expect_fail` gives the text
abbrev pub normal_reason : Bool → Option FaultKind → Option (List ℕ)
normal_reason true error = Some (codes "passed, but a failure was expected")
normal_reason false None = None
normal_reason false (Some kind) = Some (codes "passed, but " ++ fault_name kind ++ codes " was expected")

-- `expect_error=kind`: that kind, or any where it is `Exception`
abbrev pub is_expected_error : Option FaultKind → FaultKind → Bool
is_expected_error None kind = false
is_expected_error (Some expected) kind = catches_kind kind expected

-- `expect_fail=True`: an AssertionError
abbrev pub is_expected_failure : Bool → FaultKind → Bool
is_expected_failure expected kind = expected && same_kind kind AssertionError

abbrev pub is_expected : Case → FaultKind → Bool
is_expected case kind = is_expected_failure case.expect_fail kind || is_expected_error case.expect_error kind

-- why a test fails that ended with this fault, or None where it was to raise it
abbrev pub raised_reason : Case → Fault → Option (List ℕ)
raised_reason case fault = if is_expected case fault.kind then None else Some (fault_text fault)

-- Why a test fails that ended so, or None where it passes.
abbrev pub reason_of : Flat → Case → Outcome → Option (List ℕ)
reason_of flat case Normal = normal_reason case.expect_fail case.expect_error
reason_of flat case (Raised fault) = raised_reason case fault
reason_of flat case (ReadOnlyWrite sig) = Some (codes "ReadOnlyWrite: " ++ path_of flat sig)
reason_of flat case Stalled = Some (codes "Stalled")

abbrev pub verdict_of : Option (List ℕ) → Verdict
verdict_of None = Pass
verdict_of (Some reason) = Fail

-- ---- the report

abbrev pub is_pass : Verdict → Bool
is_pass Pass = true
is_pass Fail = false
is_pass Skip = false

abbrev pub is_fail : Verdict → Bool
is_fail Pass = false
is_fail Fail = true
is_fail Skip = false

abbrev pub is_skip : Verdict → Bool
is_skip Pass = false
is_skip Fail = false
is_skip Skip = true

-- the closing line of these verdicts at this time
abbrev pub report_of : List Verdict → ℕ → List ℕ
report_of verdicts time = report_line (length verdicts) (count_by is_pass verdicts) (count_by is_fail verdicts) (count_by is_skip verdicts) time
