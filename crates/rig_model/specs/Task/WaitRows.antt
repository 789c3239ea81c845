-- A means of proof: worked rows of times, limits, clocks and locks, as in `Rows`, by which the definition of a task is tried.
use Rattle.std.specs.Prelude.{◌≡◌, ℕ, false, List, [], ◌∷◌, Some, codes, pos}
use Rattle.four_value.specs.declared.Digit.TheVariants.{Zero, One}
use Rattle.gpi.specs.declared.types.Write.TheVariants as write
use Rattle.py_syntax.specs.ExpressionTrees.{FormatString, Name, Attribute, NoPart, TextThen, FormattedThen}
use Rattle.py_syntax.specs.StatementTrees.{Stop, Kind, KindAs}
use Rattle.py_syntax.specs.declared.expression.BinOp.TheVariants as op
use Rattle.py_syntax.specs.declared.fault_kind.FaultKind.TheVariants as kind
use Rattle.py_syntax.specs.declared.statement.LogLevel.TheVariants as level
use Rattle.py_value.specs.Trigger as trigger
use Rattle.py_value.specs.declared.value.Value.TheVariants as value
use Rattle.test_meaning.specs.Body.BodyTrees as body
use Rattle.test_meaning.specs.Body.BodyTrees.{Function, Handlers, Timed, TimedCall, TimedValue, RightAwait, RightStart, AwaitedCall, WithTimeout, Item, Simple, If, For, Try, With, NoItem, NoHandler, Catch}
use Rattle.test_meaning.specs.Library.{clock_start}
use Rattle.rig_model.specs.Task.Frame.{fresh}
use Rattle.rig_model.specs.Task.Texts.{num, text, two, dut, timer, shown, calls, set, info, awaits, returns, block, function_of, view, top, task, test, trig, nothing, fires, is_task, fails, ends}
use Rattle.rig_model.specs.Task.Drive.{drive}
use Rattle.await_tree.specs.declared.cause.Given.TheVariants as given
use Rattle.rig_model.specs.declared.task.task.Turned.{Turned}
use Rattle.rig_model.specs.declared.task.task.Turned.TheVariants as turned

-- ---- the largest time
--
--     async def t(dut):
--         try:
--             await Timer(4611686018427387905, "step")
--         except OverflowError:
--             dut._log.info("over")
--         await Timer(4611686018427387904, "step")
--         try:
--             await Timer(1, "step")
--         except OverflowError:
--             dut._log.info("end")

-- `except kind:` with a log line of this text
abbrev logs : kind.the_data → List ℕ → Handlers
logs k t = Catch (Kind k) (block (info (text t) ∷ [])) NoHandler

abbrev times : Function
times = function_of (codes "dut" ∷ []) [] (
    Try (block (awaits (timer (num 4611686018427387905)) ∷ [])) (logs kind.OverflowError (codes "over")) ∷
    awaits (timer (num 4611686018427387904)) ∷
    Try (block (awaits (timer (num 1)) ∷ [])) (logs kind.OverflowError (codes "end")) ∷ [])

abbrev longest : trigger.Trig
longest = trig 0 0 (trigger.Time 4611686018427387904)

abbrev pub Late_times : Type 0
Late_times =
    drive 30 (times ∷ clock_start ∷ []) view (test times) (Some given.Begin) (nothing ∷ fires longest ∷ fails kind.OverflowError ∷ nothing ∷ []) ≡ record {
      turned = turned.Log level.Info (codes "over") ∷ turned.Await longest ∷ turned.Await (trig 0 1 (trigger.Time 1)) ∷ turned.Log level.Info (codes "end")
          ∷ ends ∷ [];
      cost = 5;
    }

-- ---- `with_timeout` of a call, which is killed, and of a task, which isn't
--
--     async def slow(dut, n):
--         await Timer(10, "step")
--         dut._log.info(f"done {n}")
--
--     async def t(dut):
--         try:
--             await with_timeout(slow(dut, 1), 3, "step")
--         except SimTimeoutError:
--             dut._log.info("out 1")
--         k = cocotb.start_soon(slow(dut, 2))
--         try:
--             await with_timeout(k, 3, "step")
--         except SimTimeoutError:
--             dut._log.info("out 2")
--         await k

abbrev slow : Function
slow = function_of (codes "dut" ∷ codes "n" ∷ []) [] (
    awaits (timer (num 10)) ∷ info (FormatString (TextThen (codes "done ") (FormattedThen (Name (codes "n")) NoPart))) ∷ [])

abbrev timed : Timed → Item
timed t = Simple (body.Await (WithTimeout t (num 3) (Some (text (codes "step")))))

abbrev limits : Function
limits = function_of (codes "dut" ∷ []) (codes "k" ∷ []) (
    Try (block (timed (TimedCall (calls 0 (dut ∷ num 1 ∷ []))) ∷ [])) (logs kind.SimTimeoutError (codes "out 1")) ∷
    set (codes "k") (RightStart (calls 0 (dut ∷ num 2 ∷ []))) ∷
    Try (block (timed (TimedValue (Name (codes "k"))) ∷ [])) (logs kind.SimTimeoutError (codes "out 2")) ∷
    awaits (Name (codes "k")) ∷ [])

-- the limit of number k on the join of number j with this task
abbrev limit : ℕ → ℕ → ℕ → trigger.Trig
limit k j n = trig 0 k (trigger.Limit (trigger.Then (trig 0 j (trigger.Join (task n))) trigger.NoTrig) 3)

abbrev pub Timeouts : Type 0
Timeouts =
    drive 40 (slow ∷ limits ∷ clock_start ∷ []) view (test limits) (Some given.Begin)
    (is_task 1 ∷ fails kind.SimTimeoutError ∷ nothing ∷ nothing ∷ is_task 2 ∷ fails kind.SimTimeoutError ∷ nothing ∷ nothing ∷ []) ≡ record {
      turned = turned.Start 0 (top ∷ value.Whole (pos 1) ∷ []) false ∷ turned.Await (limit 1 0 1) ∷ turned.Kill (task 1) ∷ turned.Log level.Info (codes "out 1")
          ∷ turned.Start 0 (top ∷ value.Whole (pos 2) ∷ []) false ∷ turned.Await (limit 3 2 2) ∷ turned.Log level.Info (codes "out 2")
          ∷ turned.Await (trig 0 4 (trigger.Join (task 2))) ∷ ends ∷ [];
      cost = 6;
    }

-- ---- one cycle of a clock with half a period of 5 steps, which begins high

abbrev clock_arguments : List value.the_data
clock_arguments = value.Signal (record { 0 = 1 }) ∷ value.Whole (pos 5) ∷ value.Whole (pos 1) ∷ value.Whole (pos 1) ∷ []

abbrev pub One_cycle : Type 0
One_cycle =
    drive 90 (clock_start ∷ []) view (fresh (task 1) clock_start clock_arguments) (Some given.Begin) (nothing ∷ nothing ∷ nothing ∷ nothing ∷ []) ≡ record {
      turned = turned.Stage (record { 0 = 1 }) (write.Plain (One ∷ [])) ∷ turned.Await (trig 1 0 (trigger.Time 5)) ∷ turned.Stage (record { 0 = 1 }) (write.Plain (Zero ∷ []))
          ∷ turned.Await (trig 1 1 (trigger.Time 5)) ∷ ends ∷ [];
      cost = 8;
    }

-- ---- locks, and how their blocks are left
--
--     async def f(dut, l):
--         for i in range(3):
--             try:
--                 async with l:
--                     await Timer(1, "step")
--                     if i == 1:
--                         return i
--                     raise ValueError("v")
--             except ValueError as e:
--                 dut._log.info(f"{e} {l.locked}")
--
--     async def t(dut):
--         l = Lock()
--         r = await f(dut, l)
--         dut._log.info(f"{r} {l.locked}")

abbrev leaves : Function
leaves = function_of (codes "dut" ∷ codes "l" ∷ []) (codes "i" ∷ codes "e" ∷ []) (
    For (codes "i") (Stop (num 3)) (block (
    Try (block (With (Name (codes "l")) (block (
    awaits (timer (num 1)) ∷
    If (two op.Equal (Name (codes "i")) (num 1)) (block (returns (Name (codes "i")) ∷ [])) NoItem ∷
    Simple (body.Raise kind.ValueError (Some (text (codes "v")))) ∷ [])) ∷ []))
    (Catch (KindAs kind.ValueError (codes "e")) (block (info (shown (Name (codes "e") ∷ Attribute (Name (codes "l")) (codes "locked") ∷ [])) ∷ [])) NoHandler)
    ∷ [])) ∷ [])

abbrev holds : Function
holds = function_of (codes "dut" ∷ []) (codes "l" ∷ codes "r" ∷ []) (
    set (codes "l") body.NewLock ∷
    set (codes "r") (RightAwait (AwaitedCall (calls 0 (dut ∷ Name (codes "l") ∷ [])))) ∷
    info (shown (Name (codes "r") ∷ Attribute (Name (codes "l")) (codes "locked") ∷ [])) ∷ [])

abbrev acquires : ℕ → Turned
acquires k = turned.Await (trig 0 k (trigger.Lock (record { 0 = 0 })))

abbrev waits : ℕ → Turned
waits k = turned.Await (trig 0 k (trigger.Time 1))

abbrev releases : Turned
releases = turned.Release (record { 0 = 0 })

abbrev pub Locks_and_leaving : Type 0
Locks_and_leaving =
    drive 90 (leaves ∷ holds ∷ clock_start ∷ []) view (test holds) (Some given.Begin)
    (given.Value (value.Lock (record { 0 = 0 })) ∷ nothing ∷ nothing ∷ nothing ∷ nothing ∷ nothing ∷ nothing ∷ nothing ∷ nothing ∷ []) ≡ record {
      turned = turned.NewLock ∷ acquires 0 ∷ waits 1 ∷ releases ∷ turned.Log level.Info (codes "v False") ∷ acquires 2 ∷ waits 3 ∷ releases
          ∷ turned.Log level.Info (codes "1 False") ∷ ends ∷ [];
      cost = 14;
    }
