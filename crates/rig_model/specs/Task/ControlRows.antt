-- A means of proof: worked rows of each rule of control, as in `Rows`, by which the definition of a task is tried.
use Rattle.std.specs.Prelude.{◌≡◌, true, false, [], ◌∷◌, Some, codes, pos}
use Rattle.four_value.specs.declared.Digit.TheVariants.{Zero, One}
use Rattle.gpi.specs.declared.types.Write.TheVariants as write
use Rattle.py_syntax.specs.ExpressionTrees.{Tree, Constant, FormatString, Name, Attribute, NoPart, TextThen, FormattedThen}
use Rattle.py_syntax.specs.StatementTrees.{Stop, StartStop, StartStopStep, Constants, All, Kind, KindAs}
use Rattle.py_syntax.specs.declared.constant.Const.TheVariants as constant
use Rattle.py_syntax.specs.declared.expression.BinOp.TheVariants as op
use Rattle.py_syntax.specs.declared.fault_kind.FaultKind.TheVariants as kind
use Rattle.py_syntax.specs.declared.statement.Action.TheVariants as action
use Rattle.py_syntax.specs.declared.statement.LogLevel.TheVariants as level
use Rattle.py_value.specs.Answer.{plain_fault}
use Rattle.py_value.specs.Trigger as trigger
use Rattle.py_value.specs.declared.value.Value.TheVariants as value
use Rattle.test_meaning.specs.Body.BodyTrees as body
use Rattle.test_meaning.specs.Body.BodyTrees.{Function, FunctionCall, RightValue, RightAwait, RandomInt, AwaitedCall, AwaitedStart, WithTimeout, TimedCall, Simple, If, For, Try, With, NoItem, NoHandler, Catch, HierarchyLog, CocotbLog}
use Rattle.rig_model.specs.Task.Frame.{fresh}
use Rattle.rig_model.specs.Task.Texts.{num, minus, text, two, dut, shown, calls, set, info, awaits_call, returns, block, function_of, view, top, task, test, trig, nothing, is_task, fails, ends}
use Rattle.rig_model.specs.Task.Drive.{drive}
use Rattle.await_tree.specs.declared.cause.Given.TheVariants as given
use Rattle.rig_model.specs.declared.task.task.Turned.TheVariants as turned

-- ---- the name of an `except` is unassigned behind its block, whatever it held before
--
--     async def t(dut):
--         e = 1
--         try:
--             raise ValueError("a")
--         except ValueError as e:
--             dut._log.info(f"{e}")
--         try:
--             dut._log.info(f"{e}")
--         except UnboundLocalError as u:
--             dut._log.info(f"gone {u}")

abbrev named : Function
named = function_of (codes "dut" ∷ []) (codes "e" ∷ codes "u" ∷ []) (
    set (codes "e") (RightValue (num 1)) ∷
    Try (block (Simple (body.Raise kind.ValueError (Some (text (codes "a")))) ∷ []))
    (Catch (KindAs kind.ValueError (codes "e")) (block (info (shown (Name (codes "e") ∷ [])) ∷ [])) NoHandler) ∷
    Try (block (info (shown (Name (codes "e") ∷ [])) ∷ []))
    (Catch (KindAs kind.UnboundLocalError (codes "u")) (block (
    info (FormatString (TextThen (codes "gone ") (FormattedThen (Name (codes "u")) NoPart))) ∷ [])) NoHandler) ∷ [])

abbrev pub Handler_names : Type 0
Handler_names =
    drive 40 (named ∷ []) view (test named) (Some given.Begin) (nothing ∷ nothing ∷ []) ≡ record {
      turned = turned.Log level.Info (codes "a") ∷ turned.Log level.Info (codes "gone ") ∷ ends ∷ [];
      cost = 5;
    }

-- ---- a fault in a handler goes to the `try` around
--
--     async def t(dut):
--         try:
--             try:
--                 x = 1 // 0
--             except ZeroDivisionError:
--                 raise ValueError("in")
--             except ValueError:
--                 dut._log.info("own")
--         except Exception as e:
--             dut._log.info(f"outer {e}")

abbrev nested : Function
nested = function_of (codes "dut" ∷ []) (codes "x" ∷ codes "e" ∷ []) (
    Try (block (
    Try (block (set (codes "x") (RightValue (two op.FloorDivide (num 1) (num 0))) ∷ []))
    (Catch (Kind kind.ZeroDivisionError) (block (Simple (body.Raise kind.ValueError (Some (text (codes "in")))) ∷ []))
    (Catch (Kind kind.ValueError) (block (info (text (codes "own")) ∷ [])) NoHandler)) ∷ []))
    (Catch (KindAs kind.Exception (codes "e")) (block (
    info (FormatString (TextThen (codes "outer ") (FormattedThen (Name (codes "e")) NoPart))) ∷ [])) NoHandler) ∷ [])

abbrev pub Nested_handlers : Type 0
Nested_handlers =
    drive 40 (nested ∷ []) view (test nested) (Some given.Begin) (nothing ∷ []) ≡ record {
      turned = turned.Log level.Info (codes "outer in") ∷ ends ∷ [];
      cost = 3;
    }

-- ---- `continue` asks the next question, `break` asks none
--
--     async def t(dut):
--         n = 0
--         for i in range(4):
--             try:
--                 if i == 1:
--                     continue
--                 elif i == 3:
--                     break
--                 else:
--                     n += i
--             except:
--                 n = 100
--         dut._log.info(f"{i} {n}")

abbrev leaves : Function
leaves = function_of (codes "dut" ∷ []) (codes "n" ∷ codes "i" ∷ []) (
    set (codes "n") (RightValue (num 0)) ∷
    For (codes "i") (Stop (num 4)) (block (
    Try (block (
    If (two op.Equal (Name (codes "i")) (num 1)) (block (Simple body.Continue ∷ [])) (block (
    If (two op.Equal (Name (codes "i")) (num 3)) (block (Simple body.Break ∷ [])) (block (
    Simple (body.AugmentedAssign (codes "n") op.Add (Name (codes "i"))) ∷ [])) ∷ [])) ∷ []))
    (Catch All (block (set (codes "n") (RightValue (num 100)) ∷ [])) NoHandler) ∷ [])) ∷
    info (shown (Name (codes "i") ∷ Name (codes "n") ∷ [])) ∷ [])

abbrev pub Left_loops : Type 0
Left_loops =
    drive 60 (leaves ∷ []) view (test leaves) (Some given.Begin) (nothing ∷ []) ≡ record {
      turned = turned.Log level.Info (codes "3 2") ∷ ends ∷ [];
      cost = 17;
    }

-- ---- a call has names of its own; its operands are for the parameters that are named, and their faults are raised in the caller
--
--     async def f(dut, a, b):
--         x = a
--         return x * 10 + b
--
--     async def t(dut):
--         x = 1
--         r = await f(dut, b=x, a=7)
--         dut._log.info(f"{x} {r}")
--         try:
--             await f(dut, 1 // 0, 2)
--         except ZeroDivisionError:
--             dut._log.info("here")

abbrev called : Function
called = function_of (codes "dut" ∷ codes "a" ∷ codes "b" ∷ []) (codes "x" ∷ []) (
    set (codes "x") (RightValue (Name (codes "a"))) ∷
    returns (two op.Add (two op.Multiply (Name (codes "x")) (num 10)) (Name (codes "b"))) ∷ [])

abbrev caller : Function
caller = function_of (codes "dut" ∷ []) (codes "x" ∷ codes "r" ∷ []) (
    set (codes "x") (RightValue (num 1)) ∷
    set (codes "r") (RightAwait (AwaitedCall (FunctionCall 0 (
    record { parameter = 0; value = dut } ∷ record { parameter = 2; value = Name (codes "x") } ∷ record { parameter = 1; value = num 7 } ∷ [])))) ∷
    info (shown (Name (codes "x") ∷ Name (codes "r") ∷ [])) ∷
    Try (block (awaits_call (calls 0 (dut ∷ two op.FloorDivide (num 1) (num 0) ∷ num 2 ∷ [])) ∷ []))
    (Catch (Kind kind.ZeroDivisionError) (block (info (text (codes "here")) ∷ [])) NoHandler) ∷ [])

abbrev pub Calls_and_names : Type 0
Calls_and_names =
    drive 40 (called ∷ caller ∷ []) view (test caller) (Some given.Begin) (nothing ∷ nothing ∷ []) ≡ record {
      turned = turned.Log level.Info (codes "1 71") ∷ turned.Log level.Info (codes "here") ∷ ends ∷ [];
      cost = 7;
    }

-- ---- where the release of an `async with` is refused, its fault takes the place of what went on
--
--     async def t(dut):
--         l = Lock()
--         try:
--             async with l:
--                 l.release()
--                 raise ValueError("v")
--         except TriggerException:
--             dut._log.info("free")

abbrev releases : Function
releases = function_of (codes "dut" ∷ []) (codes "l" ∷ []) (
    set (codes "l") body.NewLock ∷
    Try (block (
    With (Name (codes "l")) (block (
    Simple (body.Act (Name (codes "l")) action.Release) ∷ Simple (body.Raise kind.ValueError (Some (text (codes "v")))) ∷ [])) ∷ []))
    (Catch (Kind kind.TriggerException) (block (info (text (codes "free")) ∷ [])) NoHandler) ∷ [])

abbrev release : turned.the_data
release = turned.Release (record { 0 = 0 })

abbrev pub Refused_release : Type 0
Refused_release =
    drive 40 (releases ∷ []) view (test releases) (Some given.Begin)
    (given.Value (value.Lock (record { 0 = 0 })) ∷ nothing ∷ nothing ∷ fails kind.TriggerException ∷ nothing ∷ []) ≡ record {
      turned = turned.NewLock ∷ turned.Await (trig 0 0 (trigger.Lock (record { 0 = 0 }))) ∷ release ∷ release ∷ turned.Log level.Info (codes "free") ∷ ends ∷ [];
      cost = 5;
    }

-- ---- what a `for` goes over; each question costs one, the last too
--
--     async def t(dut):
--         for i in range(3, 0, -2):
--             dut._log.info(f"{i}")
--         for i in [True, "x"]:
--             dut._log.info(f"{i}")
--         for i in range(5, 5):
--             pass
--         for i in range(0, 1, 0):
--             pass

abbrev logs : body.Block
logs = block (info (shown (Name (codes "i") ∷ [])) ∷ [])

abbrev passes : body.Block
passes = block (Simple body.Pass ∷ [])

abbrev spans : Function
spans = function_of (codes "dut" ∷ []) (codes "i" ∷ []) (
    For (codes "i") (StartStopStep (num 3) (num 0) (minus (num 2))) logs ∷
    For (codes "i") (Constants (constant.Truth true ∷ constant.Text (codes "x") ∷ [])) logs ∷
    For (codes "i") (StartStop (num 5) (num 5)) passes ∷
    For (codes "i") (StartStopStep (num 0) (num 1) (num 0)) passes ∷ [])

abbrev pub Spans : Type 0
Spans =
    drive 40 (spans ∷ []) view (test spans) (Some given.Begin) (nothing ∷ nothing ∷ nothing ∷ nothing ∷ []) ≡ record {
      turned = turned.Log level.Info (codes "3") ∷ turned.Log level.Info (codes "1") ∷ turned.Log level.Info (codes "True")
          ∷ turned.Log level.Info (codes "x") ∷ turned.Raised (plain_fault kind.ValueError) ∷ [];
      cost = 12;
    }

-- ---- writes, at the read-write phase and at once
--
--     async def t(dut):
--         dut.a.value = -1
--         dut.a.setimmediatevalue(200)
--         try:
--             dut.a.value = 256
--         except OverflowError:
--             dut._log.info("wide")
--         dut.value = 1

abbrev a : Tree
a = Attribute dut (codes "a")

abbrev writes : Function
writes = function_of (codes "dut" ∷ []) [] (
    Simple (body.AssignValue a (RightValue (minus (num 1)))) ∷
    Simple (body.SetImmediateValue a (num 200)) ∷
    Try (block (Simple (body.AssignValue a (RightValue (num 256))) ∷ []))
    (Catch (Kind kind.OverflowError) (block (info (text (codes "wide")) ∷ [])) NoHandler) ∷
    Simple (body.AssignValue dut (RightValue (num 1))) ∷ [])

abbrev pub Writes : Type 0
Writes =
    drive 40 (writes ∷ []) view (test writes) (Some given.Begin) (nothing ∷ nothing ∷ nothing ∷ []) ≡ record {
      turned = turned.Stage (record { 0 = 0 }) (write.Plain (One ∷ One ∷ One ∷ One ∷ One ∷ One ∷ One ∷ One ∷ []))
          ∷ turned.Put (record { 0 = 0 }) (write.Plain (Zero ∷ Zero ∷ Zero ∷ One ∷ Zero ∷ Zero ∷ One ∷ One ∷ []))
          ∷ turned.Log level.Info (codes "wide") ∷ turned.Raised (plain_fault kind.AttributeError) ∷ [];
      cost = 5;
    }

-- ---- random numbers, log lines with `%s`, and methods that act
--
--     async def t(dut, e, k):
--         x = random.randint(2, 5)
--         cocotb.log.error("%s, %s%s", x, dut.a, None)
--         e.set()
--         e.clear()
--         k.kill()
--         k.set()

abbrev acts : Function
acts = function_of (codes "dut" ∷ codes "e" ∷ codes "k" ∷ []) (codes "x" ∷ []) (
    set (codes "x") (RandomInt (num 2) (num 5)) ∷
    Simple (body.Log CocotbLog level.Error (text (codes "%s, %s%s")) (Name (codes "x") ∷ a ∷ Constant constant.Absent ∷ [])) ∷
    Simple (body.Act (Name (codes "e")) action.Set) ∷ Simple (body.Act (Name (codes "e")) action.Clear) ∷
    Simple (body.Act (Name (codes "k")) action.Kill) ∷ Simple (body.Act (Name (codes "k")) action.Set) ∷ [])

abbrev pub Acts : Type 0
Acts =
    drive 40 (acts ∷ []) view (fresh (task 0) acts (top ∷ value.Event (record { 0 = 0 }) ∷ value.Task (task 1) ∷ [])) (Some given.Begin)
    (given.Value (value.Whole (pos 3)) ∷ nothing ∷ nothing ∷ nothing ∷ nothing ∷ []) ≡ record {
      turned = turned.Draw (pos 2) 4 ∷ turned.Log level.Error (codes "3, top.aNone") ∷ turned.SetEvent (record { 0 = 0 }) ∷ turned.ClearEvent (record { 0 = 0 })
          ∷ turned.Kill (task 1) ∷ turned.Raised (plain_fault kind.AttributeError) ∷ [];
      cost = 6;
    }

-- ---- what a limited call gives is returned; a start that gives way
--
--     async def g(dut):
--         return await with_timeout(h(dut), 2, "ns")
--
--     async def t(dut):
--         x = await g(dut)
--         y = await cocotb.start(h(dut))
--         dut._log.info(f"{x} {y}")

abbrev limits : Function
limits = function_of (codes "dut" ∷ []) [] (
    Simple (body.Return (Some (RightAwait (WithTimeout (TimedCall (calls 0 (dut ∷ []))) (num 2) (Some (text (codes "ns"))))))) ∷ [])

abbrev waits : Function
waits = function_of (codes "dut" ∷ []) (codes "x" ∷ codes "y" ∷ []) (
    set (codes "x") (RightAwait (AwaitedCall (calls 1 (dut ∷ [])))) ∷
    set (codes "y") (RightAwait (AwaitedStart (calls 0 (dut ∷ [])))) ∷
    info (shown (Name (codes "x") ∷ Name (codes "y") ∷ [])) ∷ [])

abbrev pub Results : Type 0
Results =
    drive 40 (function_of (codes "dut" ∷ []) [] [] ∷ limits ∷ waits ∷ []) view (test waits) (Some given.Begin)
    (is_task 1 ∷ given.Value (value.Whole (pos 5)) ∷ is_task 2 ∷ nothing ∷ []) ≡ record {
      turned = turned.Start 0 (top ∷ []) false
          ∷ turned.Await (trig 0 1 (trigger.Limit (trigger.Then (trig 0 0 (trigger.Join (task 1))) trigger.NoTrig) 2))
          ∷ turned.Start 0 (top ∷ []) true ∷ turned.Log level.Info (codes "5 <task 2>") ∷ ends ∷ [];
      cost = 4;
    }
