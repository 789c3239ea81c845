-- A means of proof: worked runs of tests, by which the definition of a run is tried: how they begin and end, their options, and the budget.
-- What is expected was reckoned by hand from the rules.
use Rattle.std.specs.Prelude.{◌≡◌, true, false, [], ◌∷◌, None, Some, codes, pos}
use Rattle.py_syntax.specs.declared.constant.Const.TheVariants as constant
use Rattle.py_syntax.specs.declared.expression.BinOp.TheVariants as op
use Rattle.py_syntax.specs.declared.expression.Function.TheVariants as function
use Rattle.py_syntax.specs.declared.expression.Method.TheVariants as method
use Rattle.py_syntax.specs.declared.fault_kind.FaultKind.TheVariants as kind
use Rattle.py_syntax.specs.ExpressionTrees.{Constant, FormatString, NoPart, TextThen, FormattedThen}
use Rattle.test_meaning.specs.Body.BodyTrees as body
use Rattle.test_meaning.specs.Body.BodyTrees.{Function, Simple}
use Rattle.rig_model.specs.Task.Texts.{num, text, two, read, call1, set, info, awaits}
use Rattle.rig_model.specs.Run.Line.{line}
use Rattle.rig_model.specs.Run.Texts.{call0, call2, method as called, sleeps, stages, lets, coroutine, plain, traced, case_of, t_alone, begins, passes, all_lines, Works}

-- ---- the least run: `pass`

abbrev nothing : Function
nothing = coroutine [] [] (Simple body.Pass ∷ [])

abbrev pub Least_run : Type 0
Least_run = Works (plain (nothing ∷ [])) (t_alone 0) (begins (passes (codes "0"))) (0 ∷ 0 ∷ 0 ∷ []) 1

-- ---- a test ends in the read-only phase, and the next one begins in the next time step
--
--     one:
--         dut.a.value = 3
--         await ReadOnly()
--     two:
--         assert dut.a.value == 3

abbrev reads : Function
reads = coroutine [] [] (stages (codes "a") 3 ∷ awaits (call0 function.ReadOnly) ∷ [])

abbrev is_three : Function
is_three = coroutine [] [] (Simple (body.Assert (two op.Equal (read (codes "a")) (num 3)) None) ∷ [])

abbrev pub Read_only_end : Type 0
Read_only_end =
    Works (plain (reads ∷ is_three ∷ [])) (case_of (codes "one") 0 ∷ case_of (codes "two") 1 ∷ [])
    (line (codes "0 TEST one") ∷ line (codes "0 PASS one") ∷ line (codes "1 TEST two") ∷ line (codes "1 PASS two")
    ∷ line (codes "** TESTS=2 PASS=2 FAIL=0 SKIP=0 TIME=1 **") ∷ []) (3 ∷ 0 ∷ 3 ∷ []) 6

-- ---- nothing is left that could happen
--
--     one:
--         e = Event()
--         await e.wait()
--     two:
--         pass

abbrev waits_on : Function
waits_on = coroutine [] (codes "e" ∷ []) (set (codes "e") body.NewEvent ∷ awaits (called (codes "e") method.Wait) ∷ [])

abbrev pub Stalled_test : Type 0
Stalled_test =
    Works (plain (waits_on ∷ nothing ∷ [])) (case_of (codes "one") 0 ∷ case_of (codes "two") 1 ∷ [])
    (line (codes "0 TEST one") ∷ line (codes "0 FAIL one (Stalled)") ∷ line (codes "1 TEST two") ∷ line (codes "1 PASS two")
    ∷ line (codes "** TESTS=2 PASS=1 FAIL=1 SKIP=0 TIME=1 **") ∷ []) (1 ∷ 0 ∷ 1 ∷ []) 4

-- ---- options
--
--     a, skip=True:
--         pass
--     b, expect_error=ZeroDivisionError:
--         x = 1 // 0
--     c, timeout_time=4, timeout_unit="step":
--         await Timer(9, "step")

abbrev divides : Function
divides = coroutine [] (codes "x" ∷ []) (lets (codes "x") (two op.FloorDivide (num 1) (num 0)) ∷ [])

abbrev sleeper : Function
sleeper = coroutine [] [] (sleeps 9 ∷ [])

abbrev four_steps : body.Limit
four_steps = record { number = constant.Whole (pos 4); unit = constant.Text (codes "step") }

abbrev pub Options : Type 0
Options =
    Works (plain (nothing ∷ divides ∷ sleeper ∷ []))
    (record (case_of (codes "a") 0) { skip = true } ∷ record (case_of (codes "b") 1) { expect_error = Some kind.ZeroDivisionError }
    ∷ record (case_of (codes "c") 2) { time = Some four_steps } ∷ [])
    (line (codes "0 SKIP a") ∷ line (codes "0 TEST b") ∷ line (codes "0 PASS b") ∷ line (codes "1 TEST c") ∷ line (codes "5 FAIL c (SimTimeoutError)")
    ∷ line (codes "** TESTS=3 PASS=1 FAIL=1 SKIP=1 TIME=5 **") ∷ []) (3 ∷ 1 ∷ 2 ∷ []) 4

-- ---- verdicts of expected faults; a time that is refused; a skipped test at the end
--
--     a, expect_fail=True:
--         assert dut.a.value == 3
--     b, expect_error=Exception:
--         x = 1 // 0
--     c, expect_error=ValueError:
--         x = 1 // 0
--     d, expect_fail=True:
--         assert False
--     e, expect_error=ValueError:
--         raise Exception("e")
--     f, expect_error=ValueError:
--         pass
--     g, expect_fail=True, expect_error=ValueError:
--         pass
--     h, timeout_time=0, timeout_unit="step":
--         pass
--     i, skip=True:
--         pass

abbrev fails : Function
fails = coroutine [] [] (Simple (body.Assert (Constant (constant.Truth false)) None) ∷ [])

abbrev raises : Function
raises = coroutine [] [] (Simple (body.Raise kind.Exception (Some (text (codes "e")))) ∷ [])

abbrev no_steps : body.Limit
no_steps = record { number = constant.Whole (pos 0); unit = constant.Text (codes "step") }

abbrev pub Verdicts : Type 0
Verdicts =
    Works (plain (nothing ∷ divides ∷ is_three ∷ fails ∷ raises ∷ []))
    (record (case_of (codes "a") 2) { expect_fail = true } ∷ record (case_of (codes "b") 1) { expect_error = Some kind.Exception }
    ∷ record (case_of (codes "c") 1) { expect_error = Some kind.ValueError } ∷ record (case_of (codes "d") 3) { expect_fail = true }
    ∷ record (case_of (codes "e") 4) { expect_error = Some kind.ValueError } ∷ record (case_of (codes "f") 0) { expect_error = Some kind.ValueError }
    ∷ record (case_of (codes "g") 0) { expect_fail = true; expect_error = Some kind.ValueError }
    ∷ record (case_of (codes "h") 0) { time = Some no_steps } ∷ record (case_of (codes "i") 0) { skip = true } ∷ [])
    (line (codes "0 TEST a") ∷ line (codes "0 FAIL a (ValueError)") ∷ line (codes "1 TEST b") ∷ line (codes "1 PASS b")
    ∷ line (codes "2 TEST c") ∷ line (codes "2 FAIL c (ZeroDivisionError)") ∷ line (codes "3 TEST d") ∷ line (codes "3 PASS d")
    ∷ line (codes "4 TEST e") ∷ line (codes "4 FAIL e (Exception: e)") ∷ line (codes "5 TEST f") ∷ line (codes "5 FAIL f (passed, but ValueError was expected)")
    ∷ line (codes "6 TEST g") ∷ line (codes "6 FAIL g (passed, but a failure was expected)")
    ∷ line (codes "7 TEST h") ∷ line (codes "7 FAIL h (ValueError)") ∷ line (codes "7 SKIP i")
    ∷ line (codes "** TESTS=9 PASS=2 FAIL=6 SKIP=1 TIME=7 **") ∷ []) (7 ∷ 0 ∷ 7 ∷ []) 14

-- ---- no test
abbrev pub No_test : Type 0
No_test = Works (plain []) [] (line (codes "** TESTS=0 PASS=0 FAIL=0 SKIP=0 TIME=0 **") ∷ []) (0 ∷ 0 ∷ 0 ∷ []) 0

-- ---- a budget that is used up exactly, and one that is too small by one
--
--     dut.a.value = 5
--     await Timer(2, units="ns")
--     assert dut.a.value == 5
--     dut._log.info(f"a={int(dut.a.value)} q={dut.q.value}")

abbrev exact : Function
exact = coroutine [] [] (
    stages (codes "a") 5 ∷ awaits (call2 function.Timer (num 2) (text (codes "ns"))) ∷ Simple (body.Assert (two op.Equal (read (codes "a")) (num 5)) None) ∷
    info (FormatString (TextThen (codes "a=") (FormattedThen (call1 function.Int (read (codes "a"))) (TextThen (codes " q=") (FormattedThen (read (codes "q")) NoPart))))) ∷ [])

abbrev pub Exact_budget : Type 0
Exact_budget =
    Works (traced (exact ∷ [])) (t_alone 0) (begins (line (codes "0 SIG top.a 00000101") ∷ line (codes "2 INFO a=5 q=xxxxxxxx") ∷ passes (codes "2")))
    (2 ∷ 0 ∷ 2 ∷ []) 6

abbrev pub Budgets : Type 0
Budgets =
    (all_lines (traced (exact ∷ [])) 6 (t_alone 0)
    ≡ begins (line (codes "0 SIG top.a 00000101") ∷ line (codes "2 INFO a=5 q=xxxxxxxx") ∷ passes (codes "2")))
    × (all_lines (traced (exact ∷ [])) 5 (t_alone 0) ≡ begins (line (codes "0 SIG top.a 00000101") ∷ line (codes "BUDGET 5") ∷ []))

-- ---- a deadline that comes with what the test waits for, and one that comes later
--
--     await Timer(4, "step")

abbrev short : Function
short = coroutine [] [] (sleeps 4 ∷ [])

abbrev five_steps : body.Limit
five_steps = record { number = constant.Whole (pos 5); unit = constant.Text (codes "step") }

abbrev pub Deadlines : Type 0
Deadlines =
    Works (plain (short ∷ [])) (record (case_of (codes "a") 0) { time = Some four_steps } ∷ record (case_of (codes "b") 0) { time = Some five_steps } ∷ [])
    (line (codes "0 TEST a") ∷ line (codes "4 FAIL a (SimTimeoutError)") ∷ line (codes "5 TEST b") ∷ line (codes "9 PASS b")
    ∷ line (codes "** TESTS=2 PASS=1 FAIL=1 SKIP=0 TIME=9 **") ∷ []) (4 ∷ 1 ∷ 3 ∷ []) 5
