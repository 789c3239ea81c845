-- A means of proof: worked runs of waits, writes, kills and limits, by which the definition of a run is tried. What is expected was
-- reckoned by hand from the rules.
use Rattle.std.specs.Prelude.{◌≡◌, ℕ, List, [], ◌∷◌, Some, codes}
use Rattle.py_syntax.specs.ExpressionTrees.{Tree, Name, Call}
use Rattle.py_syntax.specs.ExpressionTrees as tree
use Rattle.py_syntax.specs.declared.expression.BinOp.TheVariants as op
use Rattle.py_syntax.specs.declared.expression.Function.TheVariants as function
use Rattle.py_syntax.specs.declared.expression.Method.TheVariants as method
use Rattle.py_syntax.specs.declared.fault_kind.FaultKind.TheVariants as kind
use Rattle.py_syntax.specs.declared.statement.Action.TheVariants as action
use Rattle.test_meaning.specs.Body.BodyTrees as body
use Rattle.test_meaning.specs.Body.BodyTrees.{Function, RightValue, RightAwait, AwaitedValue, WithTimeout, Timed, TimedCall, TimedValue, ClockStart, Item, Simple}
use Rattle.rig_model.specs.Task.Texts.{num, text, two, dut, read, call1, shown, calls, set, info, awaits}
use Rattle.rig_model.specs.Run.Line.{line}
use Rattle.rig_model.specs.Run.Rig.{Setup}
use Rattle.rig_model.specs.Run.Texts.{handle, call0, call2, wait_of, method as called, with_shown, says, sleeps, stages, puts, lets, starts, lets_start, acts, tries, coroutine, plain, traced, t_alone, begins, passes, stopped, counts_of, Works}

-- `n = await e`
abbrev lets_await : List ℕ → Tree → Item
lets_await n e = set n (RightAwait (AwaitedValue e))

-- ---- the largest time
--
--     try:
--         await Timer(4611686018427387905, "step")
--     except OverflowError:
--         dut._log.info("over")
--     await Timer(4611686018427387904, "step")
--     try:
--         await Timer(1, "step")
--     except OverflowError:
--         dut._log.info("end")

abbrev late : Function
late = coroutine [] [] (
    tries (sleeps 4611686018427387905) kind.OverflowError (says (codes "over")) ∷ sleeps 4611686018427387904 ∷
    tries (sleeps 1) kind.OverflowError (says (codes "end")) ∷ [])

abbrev pub Largest_time : Type 0
Largest_time =
    Works (plain (late ∷ [])) (t_alone 0) (begins (line (codes "0 INFO over") ∷ line (codes "4611686018427387904 INFO end") ∷ passes (codes "4611686018427387904")))
    (1 ∷ 0 ∷ 1 ∷ []) 6

-- ---- ties and identity
--
--     p = Timer(5, "step")
--     r = await First(p, p)
--     dut._log.info(f"{r is p}")
--     u = Timer(5, "step")
--     v = Timer(5, "step")
--     r = await First(u, v)
--     dut._log.info(f"{r is u} {r is v}")

abbrev is_same : List ℕ → List ℕ → Tree
is_same m n = two op.Is (Name m) (Name n)

abbrev ties : Function
ties = coroutine [] (codes "p" ∷ codes "r" ∷ codes "u" ∷ codes "v" ∷ []) (
    lets (codes "p") (wait_of 5) ∷ lets_await (codes "r") (call2 function.First (Name (codes "p")) (Name (codes "p"))) ∷
    info (shown (is_same (codes "r") (codes "p") ∷ [])) ∷
    lets (codes "u") (wait_of 5) ∷ lets (codes "v") (wait_of 5) ∷ lets_await (codes "r") (call2 function.First (Name (codes "u")) (Name (codes "v"))) ∷
    info (shown (is_same (codes "r") (codes "u") ∷ is_same (codes "r") (codes "v") ∷ [])) ∷ [])

abbrev pub Ties : Type 0
Ties =
    Works (plain (ties ∷ [])) (t_alone 0) (begins (line (codes "5 INFO True") ∷ line (codes "10 INFO True False") ∷ passes (codes "10"))) (2 ∷ 0 ∷ 2 ∷ []) 9

-- ---- a kill inside a Combine
--
--     async def idle(dut):
--         await Timer(50, "step")
--
--     async def w(dut, j):
--         await Combine(RisingEdge(dut.clk), Edge(dut.a), Join(j), Timer(9, "step"))
--
--     async def t(dut):
--         j = cocotb.start_soon(idle(dut))
--         k = cocotb.start_soon(w(dut, j))
--         await Timer(1, "step")
--         dut.clk.setimmediatevalue(1)
--         await Timer(1, "step")
--         k.kill()
--         await Timer(1, "step")

abbrev rise : Tree
rise = call1 function.RisingEdge (handle (codes "clk"))

abbrev idles : Function
idles = coroutine [] [] (sleeps 50 ∷ [])

abbrev combined : Function
combined = coroutine (codes "j" ∷ []) [] (
    awaits (Call function.Combine (tree.Then rise (tree.Then (call1 function.Edge (handle (codes "a")))
    (tree.Then (call1 function.Join (Name (codes "j"))) (tree.Then (wait_of 9) tree.NoTree))))) ∷ [])

abbrev kills : Function
kills = coroutine [] (codes "j" ∷ codes "k" ∷ []) (
    lets_start (codes "j") 0 (dut ∷ []) ∷ lets_start (codes "k") 1 (dut ∷ Name (codes "j") ∷ []) ∷ sleeps 1 ∷ puts (codes "clk") 1 ∷ sleeps 1 ∷
    acts (codes "k") action.Kill ∷ sleeps 1 ∷ [])

abbrev killing : Setup
killing = plain (idles ∷ combined ∷ kills ∷ [])

abbrev pub Kill_in_combine : Type 0
Kill_in_combine = Works killing (t_alone 2) (begins (passes (codes "3"))) (7 ∷ 3 ∷ 4 ∷ []) 14

-- the kill itself removes the keys of the leaves that still wait: the end of the test would do so too
abbrev pub Just_killed : Type 0
Just_killed = counts_of (stopped killing 12 (t_alone 2)) ≡ 6 ∷ 2 ∷ 3 ∷ []

-- ---- no edge from the past
--
--     dut.clk.setimmediatevalue(1)
--     await First(RisingEdge(dut.clk), Timer(4, "step"))
--     dut._log.info("late")

abbrev past : Function
past = coroutine [] [] (puts (codes "clk") 1 ∷ awaits (call2 function.First rise (wait_of 4)) ∷ says (codes "late") ∷ [])

abbrev pub No_past_edge : Type 0
No_past_edge = Works (plain (past ∷ [])) (t_alone 0) (begins (line (codes "4 INFO late") ∷ passes (codes "4"))) (2 ∷ 1 ∷ 1 ∷ []) 6

-- ---- a write in the read-only phase ends the test, and no handler sees it
--
--     async def w(dut, e):
--         await e.wait()
--         try:
--             dut.a.value = 1
--         except Exception:
--             dut._log.info("caught")
--
--     async def t(dut):
--         e = Event()
--         cocotb.start_soon(w(dut, e))
--         await ReadOnly()
--         e.set()
--         await Timer(1, "step")

abbrev writer : Function
writer = coroutine (codes "e" ∷ []) [] (
    awaits (called (codes "e") method.Wait) ∷ tries (stages (codes "a") 1) kind.Exception (says (codes "caught")) ∷ [])

abbrev sets : Function
sets = coroutine [] (codes "e" ∷ []) (
    set (codes "e") body.NewEvent ∷ starts 0 (dut ∷ Name (codes "e") ∷ []) ∷ awaits (call0 function.ReadOnly) ∷ acts (codes "e") action.Set ∷ sleeps 1 ∷ [])

abbrev pub Read_only_write : Type 0
Read_only_write =
    Works (plain (writer ∷ sets ∷ [])) (t_alone 1)
    (begins (line (codes "0 FAIL t (ReadOnlyWrite: top.a)") ∷ line (codes "** TESTS=1 PASS=0 FAIL=1 SKIP=0 TIME=0 **") ∷ [])) (2 ∷ 1 ∷ 1 ∷ []) 8

-- ---- a kill of a task that was woken
--
--     async def b(dut):
--         await Timer(1, "step")
--         await RisingEdge(dut.clk)
--         dut._log.info("b")
--
--     async def c(dut):
--         dut._log.info("c")
--
--     async def a(dut, other):
--         await RisingEdge(dut.clk)
--         other.kill()
--         cocotb.start_soon(c(dut))
--         dut._log.info("a")
--
--     async def t(dut):
--         x = cocotb.start_soon(b(dut))
--         cocotb.start_soon(a(dut, x))
--         await Timer(2, "step")
--         dut.clk.value = 1
--         await Timer(2, "step")

abbrev woken : List Function
woken =
    coroutine [] [] (sleeps 1 ∷ awaits rise ∷ says (codes "b") ∷ [])
    ∷ coroutine [] [] (says (codes "c") ∷ [])
    ∷ coroutine (codes "other" ∷ []) [] (awaits rise ∷ acts (codes "other") action.Kill ∷ starts 1 (dut ∷ []) ∷ says (codes "a") ∷ [])
    ∷ coroutine [] (codes "x" ∷ []) (
    lets_start (codes "x") 0 (dut ∷ []) ∷ starts 2 (dut ∷ Name (codes "x") ∷ []) ∷ sleeps 2 ∷ stages (codes "clk") 1 ∷ sleeps 2 ∷ [])
    ∷ []

abbrev pub Kill_of_woken : Type 0
Kill_of_woken =
    Works (plain woken) (t_alone 3) (begins (line (codes "2 INFO a") ∷ line (codes "2 INFO c") ∷ passes (codes "4"))) (5 ∷ 0 ∷ 5 ∷ []) 18

-- ---- `with_timeout` of a call, whose task is killed, and of a task, which isn't
--
--     async def slow(dut, n):
--         await Timer(10, "step")
--         dut._log.info(f"done {n}")
--
--     async def t(dut):
--         try:
--             await with_timeout(slow(dut, 1), 3, "step")
--         except SimTimeoutError:
--             dut._log.info("out 1")
--         k = cocotb.start_soon(slow(dut, 2))
--         try:
--             await with_timeout(k, 3, "step")
--         except SimTimeoutError:
--             dut._log.info("out 2")
--         await k

abbrev slow : Function
slow = coroutine (codes "n" ∷ []) [] (sleeps 10 ∷ info (with_shown (codes "done") (Name (codes "n"))) ∷ [])

abbrev timed : Timed → Item
timed t = Simple (body.Await (WithTimeout t (num 3) (Some (text (codes "step")))))

abbrev limits : Function
limits = coroutine [] (codes "k" ∷ []) (
    tries (timed (TimedCall (calls 0 (dut ∷ num 1 ∷ [])))) kind.SimTimeoutError (says (codes "out 1")) ∷
    lets_start (codes "k") 0 (dut ∷ num 2 ∷ []) ∷
    tries (timed (TimedValue (Name (codes "k")))) kind.SimTimeoutError (says (codes "out 2")) ∷
    awaits (Name (codes "k")) ∷ [])

abbrev pub With_timeout : Type 0
With_timeout =
    Works (plain (slow ∷ limits ∷ [])) (t_alone 1)
    (begins (line (codes "3 INFO out 1") ∷ line (codes "6 INFO out 2") ∷ line (codes "13 INFO done 2") ∷ passes (codes "13"))) (4 ∷ 1 ∷ 3 ∷ []) 12

-- ---- a write that is staged again stands last
--
--     dut.a.value = 1
--     dut.clk.value = 0
--     dut.a.value = 2
--     await ReadOnly()

abbrev repeats : Function
repeats = coroutine [] [] (stages (codes "a") 1 ∷ stages (codes "clk") 0 ∷ stages (codes "a") 2 ∷ awaits (call0 function.ReadOnly) ∷ [])

abbrev pub Repeated_writes : Type 0
Repeated_writes =
    Works (traced (repeats ∷ [])) (t_alone 0) (begins (line (codes "0 SIG top.clk 0") ∷ line (codes "0 SIG top.a 00000010") ∷ passes (codes "0")))
    (2 ∷ 0 ∷ 2 ∷ []) 6

-- ---- a clock
--
--     clock = Clock(dut.clk, 10, "step")
--     cocotb.start_soon(clock.start(cycles=3))
--     await ClockCycles(dut.clk, 2)
--     dut._log.info("c")
--     await ReadOnly()
--     await NextTimeStep()
--     await Edge(dut.clk)
--     dut._log.info(f"{dut.clk.value}")

abbrev clocked : Function
clocked = coroutine [] (codes "clock" ∷ []) (
    lets (codes "clock") (Call function.Clock (tree.Then (handle (codes "clk")) (tree.Then (num 10) (tree.Then (text (codes "step")) tree.NoTree)))) ∷
    Simple (body.StartSoon (ClockStart 1 (Name (codes "clock")) (record { parameter = 0; value = num 3 } ∷ []))) ∷
    awaits (call2 function.ClockCycles (handle (codes "clk")) (num 2)) ∷ says (codes "c") ∷
    awaits (call0 function.ReadOnly) ∷ awaits (call0 function.NextTimeStep) ∷ awaits (call1 function.Edge (handle (codes "clk"))) ∷
    info (shown (read (codes "clk") ∷ [])) ∷ [])

abbrev pub Clock_cycles : Type 0
Clock_cycles =
    Works (plain (clocked ∷ [])) (t_alone 0) (begins (line (codes "10 INFO c") ∷ line (codes "15 INFO 0") ∷ passes (codes "15"))) (13 ∷ 1 ∷ 12 ∷ []) 32

-- ---- who awaits the read-write phase is woken after those whom the staged writes wake
--
--     async def p(dut):
--         await ReadWrite()
--         dut._log.info("phase")
--
--     async def e(dut):
--         await Edge(dut.a)
--         dut._log.info("edge")
--
--     async def t(dut):
--         cocotb.start_soon(p(dut))
--         cocotb.start_soon(e(dut))
--         dut.a.value = 1
--         await Timer(1, "step")

abbrev phases : List Function
phases =
    coroutine [] [] (awaits (call0 function.ReadWrite) ∷ says (codes "phase") ∷ [])
    ∷ coroutine [] [] (awaits (call1 function.Edge (handle (codes "a"))) ∷ says (codes "edge") ∷ [])
    ∷ coroutine [] [] (starts 0 (dut ∷ []) ∷ starts 1 (dut ∷ []) ∷ stages (codes "a") 1 ∷ sleeps 1 ∷ [])
    ∷ []

abbrev pub Phase_last : Type 0
Phase_last =
    Works (plain phases) (t_alone 2) (begins (line (codes "0 INFO edge") ∷ line (codes "0 INFO phase") ∷ passes (codes "1"))) (3 ∷ 0 ∷ 3 ∷ []) 10

-- ---- a rise is served before the change
--
--     dut.clk.value = 1
--     c = Edge(dut.clk)
--     r = RisingEdge(dut.clk)
--     x = await First(c, r)
--     dut._log.info(f"{x is r} {x is c}")

abbrev rises : Function
rises = coroutine [] (codes "c" ∷ codes "r" ∷ codes "x" ∷ []) (
    stages (codes "clk") 1 ∷ lets (codes "c") (call1 function.Edge (handle (codes "clk"))) ∷ lets (codes "r") rise ∷
    lets_await (codes "x") (call2 function.First (Name (codes "c")) (Name (codes "r"))) ∷
    info (shown (is_same (codes "x") (codes "r") ∷ is_same (codes "x") (codes "c") ∷ [])) ∷ [])

abbrev pub Rise_first : Type 0
Rise_first = Works (plain (rises ∷ [])) (t_alone 0) (begins (line (codes "0 INFO True False") ∷ passes (codes "0"))) (3 ∷ 0 ∷ 3 ∷ []) 6
