-- A means of proof: worked rows of faults and of what comes first, of starts of clocks, and of numbers that no value can hold, as in
-- `Rows`, by which the definition of a task is tried.
use Rattle.std.specs.Prelude.{◌≡◌, ℕ, false, List, [], ◌∷◌, ◌++◌, map, replicate, None, Some, codes, pos}
use Rattle.four_value.specs.declared.Digit.{Digit}
use Rattle.four_value.specs.declared.Digit.TheVariants.{Zero, One}
use Rattle.py_syntax.specs.ExpressionTrees.{Tree, Constant, Name, Attribute}
use Rattle.py_syntax.specs.StatementTrees.{Stop, StartStop, StartStopStep, Kind, Kinds, All}
use Rattle.py_syntax.specs.declared.constant.Const.TheVariants as constant
use Rattle.py_syntax.specs.declared.expression.BinOp.TheVariants as op
use Rattle.py_syntax.specs.declared.fault_kind.FaultKind.TheVariants as kind
use Rattle.py_syntax.specs.declared.statement.LogLevel.TheVariants as level
use Rattle.py_value.specs.Answer.{plain_fault}
use Rattle.py_value.specs.Trigger as trigger
use Rattle.py_value.specs.declared.value.Value.TheVariants as value
use Rattle.py_evaluate.specs.Attribute.Look.{View}
use Rattle.test_meaning.specs.Body.BodyTrees as body
use Rattle.test_meaning.specs.Body.BodyTrees.{Operand, Function, Handlers, Item, RightValue, RandomInt, AwaitedCall, WithTimeout, Timed, TimedCall, TimedValue, ClockStart, Simple, For, Try, With, NoHandler, Catch, HierarchyLog}
use Rattle.test_meaning.specs.Library.{clock_start}
use Rattle.rig_model.specs.Task.Frame.{fresh}
use Rattle.rig_model.specs.Task.Texts.{num, minus, text, two, dut, read, calls, set, info, awaits, awaits_call, returns, block, function_of, view, top, task, test, trig, nothing, is_task, ends}
use Rattle.rig_model.specs.Task.Drive.{Driven, drive}
use Rattle.await_tree.specs.declared.cause.Given.TheVariants as given
use Rattle.rig_model.specs.declared.task.task.Turned.{Turned}
use Rattle.rig_model.specs.declared.task.task.Turned.TheVariants as turned

-- ---- which fault an item raises, told by a log line
--
--     try:
--         item
--     except TypeError:
--         dut._log.info("type")
--     except (ValueError, ZeroDivisionError):
--         dut._log.info("value")
--     except AttributeError:
--         dut._log.info("attribute")
--     except:
--         dut._log.info("another")

abbrev tells : List ℕ → body.Block
tells t = block (info (text t) ∷ [])

abbrev tellers : Handlers
tellers =
    Catch (Kind kind.TypeError) (tells (codes "type")) (Catch (Kinds (kind.ValueError ∷ kind.ZeroDivisionError ∷ [])) (tells (codes "value"))
    (Catch (Kind kind.AttributeError) (tells (codes "attribute")) (Catch All (tells (codes "another")) NoHandler)))

abbrev told : Item → Item
told i = Try (block (i ∷ [])) tellers

-- `1 // 0`
abbrev wrong : Tree
wrong = two op.FloorDivide (num 1) (num 0)

-- `await with_timeout(x, t, u)`
abbrev timed : Timed → Tree → Tree → Item
timed x t u = Simple (body.Await (WithTimeout x t (Some u)))

-- `f(dut)`, whose body is `return x`
abbrev f : body.Call
f = calls 0 (dut ∷ [])

-- `for i in range(..): pass`
abbrev loop : Rattle.py_syntax.specs.StatementTrees.Span → Item
loop span = For (codes "i") span (block (Simple body.Pass ∷ []))

-- an attribute that isn't there
abbrev nope : Tree
nope = Attribute dut (codes "nope")

-- The right side comes before its target, and arguments before what is asked of the object; but `_log` is asked before the arguments. Faults of kinds
-- come before those of values, also where they stand behind. A name of the caller is none of the function that it calls. A digit that isn't known is no
-- truth, and no number.
abbrev asked : List Item
asked =
    Simple (body.AssignValue nope (RightValue wrong)) ∷ Simple (body.AssignValue nope (RightValue (num 1))) ∷ Simple (body.SetImmediateValue dut wrong)
    ∷ Simple (body.Log (HierarchyLog (num 1)) level.Info wrong []) ∷ awaits (num 5) ∷ timed (TimedValue (num 5)) (minus (num 1)) (text (codes "ns"))
    ∷ timed (TimedCall f) (minus (num 1)) (num 1) ∷ timed (TimedCall f) (num 0) (text (codes "ns")) ∷ timed (TimedCall f) (num 1) (text (codes "years"))
    ∷ set (codes "i") (RandomInt (num 2) (num 1)) ∷ set (codes "i") (RandomInt (num 0) (num 4294967296)) ∷ loop (StartStop (read (codes "a")) (text (codes "x")))
    ∷ loop (StartStopStep (read (codes "a")) (num 1) (text (codes "x"))) ∷ loop (Stop (read (codes "a"))) ∷ With (num 5) (block []) ∷ Simple (body.StartSoon (ClockStart 1 (num 5) [])) ∷ awaits_call f
    ∷ Simple (body.Assert (read (codes "a")) None) ∷ []

abbrev asker : Function
asker = function_of (codes "dut" ∷ []) (codes "x" ∷ codes "i" ∷ []) (set (codes "x") (RightValue (num 1)) ∷ map told asked)

abbrev reader : Function
reader = function_of (codes "dut" ∷ []) (codes "x" ∷ []) (returns (Name (codes "x")) ∷ [])

abbrev line : List ℕ → Turned
line t = turned.Log level.Info t

abbrev pub Which_faults : Type 0
Which_faults =
    drive 200 (reader ∷ asker ∷ []) view (test asker) (Some given.Begin) (replicate 18 nothing) ≡ record {
      turned = line (codes "value") ∷ line (codes "attribute") ∷ line (codes "value") ∷ line (codes "attribute") ∷ line (codes "type") ∷ line (codes "type")
          ∷ line (codes "type") ∷ line (codes "value") ∷ line (codes "value") ∷ line (codes "value") ∷ line (codes "value") ∷ line (codes "type")
          ∷ line (codes "type") ∷ line (codes "value") ∷ line (codes "type") ∷ line (codes "attribute") ∷ line (codes "another") ∷ line (codes "another") ∷ ends ∷ [];
      cost = 38;
    }

-- ---- starts of clocks, and a limit whose unit is left out
--
--     async def t(dut, c, k):
--         cocotb.start_soon(c.start())
--         cocotb.start_soon(c.start(start_high=False, cycles=3))
--         await c.start(cycles=0)
--         await with_timeout(k, 3)

abbrev operand : ℕ → Tree → Operand
operand n e = record { parameter = n; value = e }

abbrev c : Tree
c = Name (codes "c")

abbrev starter : Function
starter = function_of (codes "dut" ∷ codes "c" ∷ codes "k" ∷ []) [] (
    Simple (body.StartSoon (ClockStart 1 c [])) ∷
    Simple (body.StartSoon (ClockStart 1 c (operand 1 (Constant (constant.Truth false)) ∷ operand 0 (num 3) ∷ []))) ∷
    Simple (body.Await (AwaitedCall (ClockStart 1 c (operand 0 (num 0) ∷ [])))) ∷
    Simple (body.Await (WithTimeout (TimedValue (Name (codes "k"))) (num 3) None)) ∷ [])

-- on the signal of one digit, with half a period of 5 steps
abbrev clock : value.the_data
clock = value.Clock (record { 0 = 1 }) 5

-- what a clock's task is given: the digit that it writes first, and the cycles
abbrev clocked : ℕ → value.the_data → Turned
clocked n cycles = turned.Start 1 (value.Signal (record { 0 = 1 }) ∷ value.Whole (pos 5) ∷ value.Whole (pos n) ∷ cycles ∷ []) false

abbrev pub Clock_starts : Type 0
Clock_starts =
    drive 60 (starter ∷ clock_start ∷ []) view (fresh (task 0) starter (top ∷ clock ∷ value.Task (task 1) ∷ [])) (Some given.Begin)
    (is_task 2 ∷ is_task 3 ∷ nothing ∷ []) ≡ record {
      turned = clocked 1 value.Absent ∷ clocked 0 (value.Whole (pos 3))
          ∷ turned.Await (trig 0 1 (trigger.Limit (trigger.Then (trig 0 0 (trigger.Join (task 1))) trigger.NoTrig) 3)) ∷ ends ∷ [];
      cost = 6;
    }

-- ---- numbers that no value can hold, which vectors of 128 digits have: an element of a `for`, and the high bound of a draw
--
--     async def t(dut):
--         for i in range(170141183460469231731687303715884105727, dut.a.value):
--             pass
--
--     async def u(dut):
--         i = random.randint(170141183460469231731687303715884105727, dut.a.value)

abbrev most : Tree
most = num 170141183460469231731687303715884105727

abbrev far : Function
far = function_of (codes "dut" ∷ []) (codes "i" ∷ []) (loop (StartStop most (read (codes "a"))) ∷ [])

abbrev draws : Function
draws = function_of (codes "dut" ∷ []) (codes "i" ∷ []) (set (codes "i") (RandomInt most (read (codes "a"))) ∷ [])

-- the design's first signal has these digits
abbrev seeing : List Digit → View
seeing ds = record view { signals = ds ∷ replicate 1 One ∷ [] }

abbrev overflows : ℕ → Driven
overflows cost = record { turned = turned.Raised (plain_fault kind.OverflowError) ∷ []; cost = cost }

abbrev pub Far_numbers : Type 0
Far_numbers =
    (drive 20 (far ∷ []) (seeing (replicate 128 One)) (test far) (Some given.Begin) [] ≡ overflows 3)
    × (drive 20 (draws ∷ []) (seeing (replicate 127 Zero ++ One ∷ [])) (test draws) (Some given.Begin) [] ≡ overflows 1)
