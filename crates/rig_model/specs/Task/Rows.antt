-- A means of proof: worked rows of values, control and calls, by which the definition of a task is tried: what it wants, in order, and what
-- that costs. Each is a test's text as a tree, and what is expected was reckoned by hand from the rules.
use Rattle.std.specs.Prelude.{◌≡◌, true, false, [], ◌∷◌, None, Some, codes}
use Rattle.py_syntax.specs.ExpressionTrees.{Constant, FormatString, Name, Infix, NoPart, TextThen, FormattedThen}
use Rattle.py_syntax.specs.StatementTrees.{Stop, KindAs}
use Rattle.py_syntax.specs.declared.constant.Const.TheVariants as constant
use Rattle.py_syntax.specs.declared.expression.BinOp.TheVariants as op
use Rattle.py_syntax.specs.declared.expression.BoolOp.TheVariants.{Or}
use Rattle.py_syntax.specs.declared.expression.Function.TheVariants as function
use Rattle.py_syntax.specs.declared.expression.Operation.TheVariants as operation
use Rattle.py_syntax.specs.declared.fault_kind.FaultKind.TheVariants as kind
use Rattle.py_syntax.specs.declared.statement.Action.TheVariants as action
use Rattle.py_syntax.specs.declared.statement.LogLevel.TheVariants as level
use Rattle.py_value.specs.Answer.{plain_fault}
use Rattle.py_value.specs.Trigger as trigger
use Rattle.py_value.specs.declared.value.Fault.{Fault}
use Rattle.test_meaning.specs.Body.BodyTrees as body
use Rattle.test_meaning.specs.Body.BodyTrees.{Function, RightValue, RightAwait, RightStart, AwaitedValue, AwaitedCall, Simple, If, While, For, Try, NoItem, NoHandler, Catch, HierarchyLog}
use Rattle.test_meaning.specs.Library.{clock_start}
use Rattle.rig_model.specs.Task.Frame.{fresh}
use Rattle.rig_model.specs.Task.Texts.{num, minus, text, two, dut, read, call1, timer, shown, calls, set, info, awaits, awaits_call, returns, block, function_of, view, top, task, test, trig, nothing, fires, is_task, ends}
use Rattle.rig_model.specs.Task.Drive.{drive}
use Rattle.await_tree.specs.declared.cause.Given.TheVariants as given
use Rattle.rig_model.specs.declared.task.task.Turned.TheVariants as turned

-- ---- whole numbers
--
--     async def t(dut):
--         dut._log.info(f"{-7 // 2} {-7 % 2} {7 % -2} {True + 1} {0 or 5}")
--         x = 170141183460469231731687303715884105727 + 1

abbrev numbers : Function
numbers = function_of (codes "dut" ∷ []) (codes "x" ∷ []) (
    info (shown (two op.FloorDivide (minus (num 7)) (num 2) ∷ two op.Modulo (minus (num 7)) (num 2) ∷ two op.Modulo (num 7) (minus (num 2))
    ∷ two op.Add (Constant (constant.Truth true)) (num 1) ∷ Infix (operation.Bool Or) (num 0) (num 5) ∷ [])) ∷
    set (codes "x") (RightValue (two op.Add (num 170141183460469231731687303715884105727) (num 1))) ∷ [])

abbrev pub Whole_numbers : Type 0
Whole_numbers =
    drive 9 (numbers ∷ clock_start ∷ []) view (test numbers) (Some given.Begin) (nothing ∷ []) ≡ record {
      turned = turned.Log level.Info (codes "-4 1 -1 2 5") ∷ turned.Raised (plain_fault kind.OverflowError) ∷ [];
      cost = 2;
    }

-- ---- loops, calls and handlers
--
--     async def f(dut, n):
--         for i in range(n):
--             if i == 2:
--                 return i
--         return 9
--
--     async def t(dut):
--         x = await f(dut, 5)
--         y = await f(dut, 1)
--         try:
--             raise ValueError(f"{x}{y}")
--         except ValueError as e:
--             dut._log.warning("got %s", e)
--         while x:
--             x -= 1
--         assert dut.a.value == 0

abbrev counts : Function
counts = function_of (codes "dut" ∷ codes "n" ∷ []) (codes "i" ∷ []) (
    For (codes "i") (Stop (Name (codes "n"))) (block (
    If (two op.Equal (Name (codes "i")) (num 2)) (block (returns (Name (codes "i")) ∷ [])) NoItem ∷ [])) ∷
    returns (num 9) ∷ [])

abbrev loops : Function
loops = function_of (codes "dut" ∷ []) (codes "x" ∷ codes "y" ∷ codes "e" ∷ []) (
    set (codes "x") (RightAwait (AwaitedCall (calls 0 (dut ∷ num 5 ∷ [])))) ∷
    set (codes "y") (RightAwait (AwaitedCall (calls 0 (dut ∷ num 1 ∷ [])))) ∷
    Try (block (
    Simple (body.Raise kind.ValueError (Some (FormatString (FormattedThen (Name (codes "x")) (FormattedThen (Name (codes "y")) NoPart))))) ∷ []))
    (Catch (KindAs kind.ValueError (codes "e")) (block (
    Simple (body.Log (HierarchyLog dut) level.Warning (text (codes "got %s")) (Name (codes "e") ∷ [])) ∷ [])) NoHandler) ∷
    While (Name (codes "x")) (block (Simple (body.AugmentedAssign (codes "x") op.Subtract (num 1)) ∷ [])) ∷
    Simple (body.Assert (two op.Equal (read (codes "a")) (num 0)) None) ∷ [])

abbrev pub Loops_and_handlers : Type 0
Loops_and_handlers =
    drive 60 (counts ∷ loops ∷ clock_start ∷ []) view (test loops) (Some given.Begin) (nothing ∷ []) ≡ record {
      turned = turned.Log level.Warning (codes "got 29") ∷ turned.Raised (plain_fault kind.ValueError) ∷ [];
      cost = 21;
    }

-- ---- 1,000 frames
--
--     async def r(dut, n):
--         if n:
--             await r(dut, n - 1)
--
--     async def t(dut):
--         await r(dut, 998)
--         dut._log.info("deep")
--         await r(dut, 999)

abbrev deep : Function
deep = function_of (codes "dut" ∷ codes "n" ∷ []) [] (
    If (Name (codes "n")) (block (awaits_call (calls 0 (dut ∷ two op.Subtract (Name (codes "n")) (num 1) ∷ [])) ∷ [])) NoItem ∷ [])

abbrev deepest : Function
deepest = function_of (codes "dut" ∷ []) [] (
    awaits_call (calls 0 (dut ∷ num 998 ∷ [])) ∷ info (text (codes "deep")) ∷ awaits_call (calls 0 (dut ∷ num 999 ∷ [])) ∷ [])

abbrev pub Deep_calls : Type 0
Deep_calls =
    drive 8100 (deep ∷ deepest ∷ clock_start ∷ []) view (test deepest) (Some given.Begin) (nothing ∷ []) ≡ record {
      turned = turned.Log level.Info (codes "deep") ∷ turned.Raised (plain_fault kind.RuntimeError) ∷ [];
      cost = 3998;
    }

-- ---- a fault of a task, and its join; a killed task
--
--     async def bad(dut):
--         await Timer(1, "step")
--         assert False, "boom"
--
--     async def one(dut):
--         j = cocotb.start_soon(bad(dut))
--         try:
--             await j
--         except AssertionError as x:
--             dut._log.info(f"joined {x}")
--         k = cocotb.start_soon(bad(dut))
--         k.kill()
--         r = await Join(k)
--         dut._log.info(f"{r}")

abbrev bad : Function
bad = function_of (codes "dut" ∷ []) [] (
    awaits (timer (num 1)) ∷ Simple (body.Assert (Constant (constant.Truth false)) (Some (text (codes "boom")))) ∷ [])

abbrev joins : Function
joins = function_of (codes "dut" ∷ []) (codes "j" ∷ codes "x" ∷ codes "k" ∷ codes "r" ∷ []) (
    set (codes "j") (RightStart (calls 0 (dut ∷ []))) ∷
    Try (block (awaits (Name (codes "j")) ∷ []))
    (Catch (KindAs kind.AssertionError (codes "x")) (block (info (FormatString (TextThen (codes "joined ") (FormattedThen (Name (codes "x")) NoPart))) ∷ [])) NoHandler) ∷
    set (codes "k") (RightStart (calls 0 (dut ∷ []))) ∷
    Simple (body.Act (Name (codes "k")) action.Kill) ∷
    set (codes "r") (RightAwait (AwaitedValue (call1 function.Join (Name (codes "k"))))) ∷
    info (shown (Name (codes "r") ∷ [])) ∷ [])

abbrev boom : Fault
boom = record { kind = kind.AssertionError; text = codes "boom" }

abbrev pub Bad_fails : Type 0
Bad_fails =
    drive 9 (bad ∷ joins ∷ clock_start ∷ []) view (fresh (task 1) bad (top ∷ [])) (Some given.Begin) (fires (trig 1 0 (trigger.Time 1)) ∷ []) ≡ record {
      turned = turned.Await (trig 1 0 (trigger.Time 1)) ∷ turned.Raised boom ∷ [];
      cost = 2;
    }

abbrev pub Joined_and_killed : Type 0
Joined_and_killed =
    drive 30 (bad ∷ joins ∷ clock_start ∷ []) view (test joins) (Some given.Begin)
    (is_task 1 ∷ given.Fault boom ∷ nothing ∷ is_task 2 ∷ nothing ∷ nothing ∷ nothing ∷ []) ≡ record {
      turned = turned.Start 0 (top ∷ []) false ∷ turned.Await (trig 0 0 (trigger.Join (task 1))) ∷ turned.Log level.Info (codes "joined boom")
          ∷ turned.Start 0 (top ∷ []) false ∷ turned.Kill (task 2) ∷ turned.Await (trig 0 1 (trigger.Join (task 2))) ∷ turned.Log level.Info (codes "None")
          ∷ ends ∷ [];
      cost = 7;
    }
