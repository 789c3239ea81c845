-- A means of proof: worked runs of events, locks, joins and random numbers, by which the definition of a run is tried. What is expected was
-- reckoned by hand from the rules.
use Rattle.std.specs.Prelude.{false, [], ◌∷◌, Some, codes}
use Rattle.py_syntax.specs.ExpressionTrees.{Name, Constant}
use Rattle.py_syntax.specs.StatementTrees.{KindAs}
use Rattle.py_syntax.specs.declared.constant.Const.TheVariants as constant
use Rattle.py_syntax.specs.declared.expression.Function.TheVariants as function
use Rattle.py_syntax.specs.declared.expression.Method.TheVariants as method
use Rattle.py_syntax.specs.declared.fault_kind.FaultKind.TheVariants as kind
use Rattle.py_syntax.specs.declared.statement.Action.TheVariants as action
use Rattle.test_meaning.specs.Body.BodyTrees as body
use Rattle.test_meaning.specs.Body.BodyTrees.{Function, RightAwait, RandomInt, AwaitedValue, AwaitedStart, Simple, Catch, NoHandler}
use Rattle.rig_model.specs.Task.Texts.{text, dut, num, call1, shown, calls, set, info, awaits, block}
use Rattle.rig_model.specs.Run.Line.{line}
use Rattle.rig_model.specs.Run.Texts.{method as called, with_shown, says, sleeps, starts, lets_start, acts, tries, coroutine, plain, case_of, t_alone, begins, passes, Works}

-- ---- an event is set and cleared
--
--     async def w(dut, e):
--         await e.wait()
--         dut._log.info("woken")
--
--     async def t(dut):
--         e = Event()
--         cocotb.start_soon(w(dut, e))
--         await Timer(1, "step")
--         e.set()
--         e.clear()
--         dut._log.info(f"{e.is_set()}")
--         await Timer(1, "step")
--         e.set()
--         await e.wait()
--         dut._log.info("set")

abbrev waiter : Function
waiter = coroutine (codes "e" ∷ []) [] (awaits (called (codes "e") method.Wait) ∷ says (codes "woken") ∷ [])

abbrev clears : Function
clears = coroutine [] (codes "e" ∷ []) (
    set (codes "e") body.NewEvent ∷ starts 0 (dut ∷ Name (codes "e") ∷ []) ∷ sleeps 1 ∷ acts (codes "e") action.Set ∷ acts (codes "e") action.Clear ∷
    info (shown (called (codes "e") method.IsSet ∷ [])) ∷ sleeps 1 ∷ acts (codes "e") action.Set ∷ awaits (called (codes "e") method.Wait) ∷ says (codes "set") ∷ [])

abbrev pub Set_and_clear : Type 0
Set_and_clear =
    Works (plain (waiter ∷ clears ∷ [])) (t_alone 1)
    (begins (line (codes "1 INFO False") ∷ line (codes "1 INFO woken") ∷ line (codes "2 INFO set") ∷ passes (codes "2"))) (2 ∷ 0 ∷ 2 ∷ []) 14

-- ---- a lock goes to its first waiter, and not to one that was killed
--
--     async def w(dut, l, n):
--         await l.acquire()
--         dut._log.info(f"got {n}")
--         l.release()
--
--     async def t(dut):
--         l = Lock()
--         await l.acquire()
--         cocotb.start_soon(w(dut, l, 1))
--         m = cocotb.start_soon(w(dut, l, 2))
--         cocotb.start_soon(w(dut, l, 3))
--         await Timer(1, "step")
--         m.kill()
--         l.release()
--         await Timer(1, "step")
--         try:
--             l.release()
--         except TriggerException:
--             dut._log.info("free")

abbrev locker : Function
locker = coroutine (codes "l" ∷ codes "n" ∷ []) [] (
    awaits (called (codes "l") method.Acquire) ∷ info (with_shown (codes "got") (Name (codes "n"))) ∷ acts (codes "l") action.Release ∷ [])

abbrev locks : Function
locks = coroutine [] (codes "l" ∷ codes "m" ∷ []) (
    set (codes "l") body.NewLock ∷ awaits (called (codes "l") method.Acquire) ∷
    starts 0 (dut ∷ Name (codes "l") ∷ num 1 ∷ []) ∷ lets_start (codes "m") 0 (dut ∷ Name (codes "l") ∷ num 2 ∷ []) ∷ starts 0 (dut ∷ Name (codes "l") ∷ num 3 ∷ []) ∷
    sleeps 1 ∷ acts (codes "m") action.Kill ∷ acts (codes "l") action.Release ∷ sleeps 1 ∷
    tries (acts (codes "l") action.Release) kind.TriggerException (says (codes "free")) ∷ [])

abbrev pub Locks : Type 0
Locks =
    Works (plain (locker ∷ locks ∷ [])) (t_alone 1)
    (begins (line (codes "1 INFO got 1") ∷ line (codes "1 INFO got 3") ∷ line (codes "2 INFO free") ∷ passes (codes "2"))) (2 ∷ 0 ∷ 2 ∷ []) 20

-- ---- faults that are joined, and that are not
--
--     async def bad(dut):
--         await Timer(1, "step")
--         assert False, "boom"
--
--     one:
--         j = cocotb.start_soon(bad(dut))
--         try:
--             await j
--         except AssertionError as x:
--             dut._log.info(f"joined {x}")
--         k = cocotb.start_soon(bad(dut))
--         k.kill()
--         r = await Join(k)
--         dut._log.info(f"{r}")
--     two:
--         cocotb.start_soon(bad(dut))
--         await Timer(5, "step")

abbrev bad : Function
bad = coroutine [] [] (sleeps 1 ∷ Simple (body.Assert (Constant (constant.Truth false)) (Some (text (codes "boom")))) ∷ [])

abbrev joins : Function
joins = coroutine [] (codes "j" ∷ codes "x" ∷ codes "k" ∷ codes "r" ∷ []) (
    lets_start (codes "j") 0 (dut ∷ []) ∷
    body.Try (block (awaits (Name (codes "j")) ∷ []))
    (Catch (KindAs kind.AssertionError (codes "x")) (block (info (with_shown (codes "joined") (Name (codes "x"))) ∷ [])) NoHandler) ∷
    lets_start (codes "k") 0 (dut ∷ []) ∷ acts (codes "k") action.Kill ∷
    set (codes "r") (RightAwait (AwaitedValue (call1 function.Join (Name (codes "k"))))) ∷ info (shown (Name (codes "r") ∷ [])) ∷ [])

abbrev leaves : Function
leaves = coroutine [] [] (starts 0 (dut ∷ []) ∷ sleeps 5 ∷ [])

abbrev pub Joined_faults : Type 0
Joined_faults =
    Works (plain (bad ∷ joins ∷ leaves ∷ [])) (case_of (codes "one") 1 ∷ case_of (codes "two") 2 ∷ [])
    (line (codes "0 TEST one") ∷ line (codes "1 INFO joined boom") ∷ line (codes "1 INFO None") ∷ line (codes "1 PASS one") ∷ line (codes "2 TEST two")
    ∷ line (codes "3 FAIL two (AssertionError: boom)") ∷ line (codes "** TESTS=2 PASS=1 FAIL=1 SKIP=0 TIME=3 **") ∷ []) (4 ∷ 1 ∷ 3 ∷ []) 16

-- ---- a start that gives way
--
--     async def f(dut, n):
--         dut._log.info(f"f {n}")
--
--     async def t(dut):
--         cocotb.start_soon(f(dut, 1))
--         await cocotb.start(f(dut, 2))
--         dut._log.info("t")

abbrev tells : Function
tells = coroutine (codes "n" ∷ []) [] (info (with_shown (codes "f") (Name (codes "n"))) ∷ [])

abbrev gives_way : Function
gives_way = coroutine [] [] (
    starts 0 (dut ∷ num 1 ∷ []) ∷ Simple (body.Await (AwaitedStart (calls 0 (dut ∷ num 2 ∷ [])))) ∷ says (codes "t") ∷ [])

abbrev pub Gives_way : Type 0
Gives_way =
    Works (plain (tells ∷ gives_way ∷ [])) (t_alone 1)
    (begins (line (codes "0 INFO f 1") ∷ line (codes "0 INFO f 2") ∷ line (codes "0 INFO t") ∷ passes (codes "0"))) (0 ∷ 0 ∷ 0 ∷ []) 5

-- ---- random numbers of seed 0
--
--     x = random.randint(0, 1)
--     y = random.randint(0, 1)
--     dut._log.info(f"{x} {y}")

abbrev draws : Function
draws = coroutine [] (codes "x" ∷ codes "y" ∷ []) (
    set (codes "x") (RandomInt (num 0) (num 1)) ∷ set (codes "y") (RandomInt (num 0) (num 1)) ∷
    info (shown (Name (codes "x") ∷ Name (codes "y") ∷ [])) ∷ [])

abbrev pub Random_numbers : Type 0
Random_numbers = Works (plain (draws ∷ [])) (t_alone 0) (begins (line (codes "0 INFO 0 1") ∷ passes (codes "0"))) (0 ∷ 0 ∷ 0 ∷ []) 3
