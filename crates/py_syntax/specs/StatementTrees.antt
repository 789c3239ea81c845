-- Trees of statements and of the headers of blocks, without where they lie in memory, and how high they are (the language reference, 7 and
-- 8).
use Rattle.std.specs.Prelude.{ℕ, max, List, [], ◌∷◌, map, Option, Some, None}
use Rattle.py_syntax.specs.ExpressionTrees.{Tree, view, height}
use Rattle.py_syntax.specs.declared.constant.Const.{Const}
use Rattle.py_syntax.specs.declared.expression.BinOp.{BinOp}
use Rattle.py_syntax.specs.declared.fault_kind.FaultKind.{FaultKind}
use Rattle.py_syntax.specs.declared.statement.Action.{Action}
use Rattle.py_syntax.specs.declared.statement.LogLevel.{LogLevel}
use Rattle.py_syntax.specs.declared.call.Argument as argument
use Rattle.py_syntax.specs.declared.call.StartedCall as started
use Rattle.py_syntax.specs.declared.call.StartedCall.TheVariants as started_call
use Rattle.py_syntax.specs.declared.call.Timed as timed
use Rattle.py_syntax.specs.declared.call.Timed.TheVariants as timed_value
use Rattle.py_syntax.specs.declared.call.Awaited as awaited
use Rattle.py_syntax.specs.declared.call.Awaited.TheVariants as awaited_value
use Rattle.py_syntax.specs.declared.call.RightSide as right
use Rattle.py_syntax.specs.declared.call.RightSide.TheVariants as right_side
use Rattle.py_syntax.specs.declared.call.WriteAction as write_action
use Rattle.py_syntax.specs.declared.call.WriteAction.TheVariants as action_value
use Rattle.py_syntax.specs.declared.statement.Logger as logger
use Rattle.py_syntax.specs.declared.statement.Logger.TheVariants as logger_value
use Rattle.py_syntax.specs.declared.statement.Statement as statement
use Rattle.py_syntax.specs.declared.statement.Statement.TheVariants as statement_value
use Rattle.py_syntax.specs.declared.statement.Caught as caught
use Rattle.py_syntax.specs.declared.statement.Caught.TheVariants as caught_value
use Rattle.py_syntax.specs.declared.statement.Span as span
use Rattle.py_syntax.specs.declared.statement.Span.TheVariants as span_value
use Rattle.py_syntax.specs.declared.statement.Header as header
use Rattle.py_syntax.specs.declared.statement.Header.TheVariants as header_value
use Rattle.py_syntax.specs.declared.statement.BodyLine as line
use Rattle.py_syntax.specs.declared.statement.BodyLine.TheVariants as line_value

-- an argument of a call, perhaps given by its name
pub record Argument : Type 0 where
  pub name : Option (List ℕ)
  pub value : Tree

-- a call that makes a task: of an async function, the start of a clock, or a queue's `put` with its item or its `get`
pub data StartedCall : Type 0 where
  FunctionCall : List ℕ → List Argument → StartedCall
  ClockStart : Tree → List Argument → StartedCall
  QueuePut : Tree → Tree → StartedCall
  QueueGet : Tree → StartedCall

-- what `with_timeout` waits for
pub data Timed : Type 0 where
  TimedValue : Tree → Timed
  TimedCall : StartedCall → Timed

-- what stands behind `await`
pub data Awaited : Type 0 where
  AwaitedValue : Tree → Awaited
  AwaitedCall : StartedCall → Awaited
  AwaitedStart : StartedCall → Awaited
  WithTimeout : Timed → Tree → Option Tree → Awaited

pub data RightSide : Type 0 where
  RightValue : Tree → RightSide
  RightAwait : Awaited → RightSide
  RightStart : StartedCall → RightSide
  NewEvent : RightSide
  NewLock : RightSide
  RandomInt : Tree → Tree → RightSide
  NewQueue : Option Tree → RightSide
  GetNow : Tree → RightSide

-- a write that is no value
pub data WriteAction : Type 0 where
  Force : Tree → WriteAction
  Freeze : WriteAction
  Release : WriteAction

pub data Logger : Type 0 where
  CocotbLog : Logger
  HierarchyLog : Tree → Logger

pub data Statement : Type 0 where
  Pass : Statement
  Break : Statement
  Continue : Statement
  Return : Option RightSide → Statement
  Raise : FaultKind → Option Tree → Statement
  Assert : Tree → Option Tree → Statement
  Assign : List ℕ → RightSide → Statement
  AugmentedAssign : List ℕ → BinOp → Tree → Statement
  AssignValue : Tree → RightSide → Statement
  SetImmediateValue : Tree → Tree → Statement
  Await : Awaited → Statement
  Act : Tree → Action → Statement
  Log : Logger → LogLevel → Tree → List Tree → Statement
  StartSoon : StartedCall → Statement
  PutNow : Tree → Tree → Statement
  AssignAction : Tree → WriteAction → Statement
  SetImmediateAction : Tree → WriteAction → Statement

-- what an `except` catches
pub data Caught : Type 0 where
  All : Caught
  Kind : FaultKind → Caught
  Kinds : List FaultKind → Caught
  KindAs : FaultKind → List ℕ → Caught

-- what a `for` goes over
pub data Span : Type 0 where
  Stop : Tree → Span
  StartStop : Tree → Tree → Span
  StartStopStep : Tree → Tree → Tree → Span
  Constants : List Const → Span

pub data Header : Type 0 where
  If : Tree → Header
  Elif : Tree → Header
  Else : Header
  While : Tree → Header
  For : List ℕ → Span → Header
  Try : Header
  Except : Caught → Header
  With : Tree → Header

-- a logical line of a function's body
pub data BodyLine : Type 0 where
  Simple : Statement → BodyLine
  Heads : Header → BodyLine

abbrev pub optional : {A B : Type 0} → (A → B) → Option A → Option B
optional f None = None
optional f (Some x) = Some (f x)

-- The code's trees.

abbrev pub view_argument : argument.Argument → Argument
view_argument a = record { name = a.name; value = view a.value }

abbrev pub view_started : started.StartedCall → StartedCall
view_started (started_call.Function n xs) = FunctionCall n (map view_argument xs.items)
view_started (started_call.Clock e xs) = ClockStart (view e) (map view_argument xs.items)
view_started (started_call.Put e x) = QueuePut (view e) (view x)
view_started (started_call.Get e) = QueueGet (view e)

abbrev pub view_timed : timed.Timed → Timed
view_timed (timed_value.Value e) = TimedValue (view e)
view_timed (timed_value.Call f) = TimedCall (view_started f)

abbrev pub view_awaited : awaited.Awaited → Awaited
view_awaited (awaited_value.Value e) = AwaitedValue (view e)
view_awaited (awaited_value.Call f) = AwaitedCall (view_started f)
view_awaited (awaited_value.Start f) = AwaitedStart (view_started f)
view_awaited (awaited_value.WithTimeout x e u) = WithTimeout (view_timed x) (view e) (optional view u)

abbrev pub view_right : right.RightSide → RightSide
view_right (right_side.Value e) = RightValue (view e)
view_right (right_side.Await a) = RightAwait (view_awaited a)
view_right (right_side.StartSoon f) = RightStart (view_started f)
view_right right_side.Event = NewEvent
view_right right_side.Lock = NewLock
view_right (right_side.RandomInt a b) = RandomInt (view a) (view b)
view_right (right_side.Queue e) = NewQueue (optional view e)
view_right (right_side.GetNow e) = GetNow (view e)

abbrev pub view_write_action : write_action.WriteAction → WriteAction
view_write_action (action_value.Force e) = Force (view e)
view_write_action action_value.Freeze = Freeze
view_write_action action_value.Release = Release

abbrev pub view_logger : logger.Logger → Logger
view_logger logger_value.Cocotb = CocotbLog
view_logger (logger_value.Hierarchy e) = HierarchyLog (view e)

abbrev pub view_statement : statement.Statement → Statement
view_statement statement_value.Pass = Pass
view_statement statement_value.Break = Break
view_statement statement_value.Continue = Continue
view_statement (statement_value.Return s) = Return (optional view_right s)
view_statement (statement_value.Raise k e) = Raise k (optional view e)
view_statement (statement_value.Assert c e) = Assert (view c) (optional view e)
view_statement (statement_value.Assign n s) = Assign n (view_right s)
view_statement (statement_value.AugmentedAssign n op e) = AugmentedAssign n op (view e)
view_statement (statement_value.AssignValue e s) = AssignValue (view e) (view_right s)
view_statement (statement_value.SetImmediateValue e v) = SetImmediateValue (view e) (view v)
view_statement (statement_value.Await a) = Await (view_awaited a)
view_statement (statement_value.Act e a) = Act (view e) a
view_statement (statement_value.Log g l e es) = Log (view_logger g) l (view e) (map view es.items)
view_statement (statement_value.StartSoon f) = StartSoon (view_started f)
view_statement (statement_value.PutNow e x) = PutNow (view e) (view x)
view_statement (statement_value.AssignAction e w) = AssignAction (view e) (view_write_action w)
view_statement (statement_value.SetImmediateAction e w) = SetImmediateAction (view e) (view_write_action w)

abbrev pub view_caught : caught.Caught → Caught
view_caught caught_value.All = All
view_caught (caught_value.Kind k) = Kind k
view_caught (caught_value.Kinds ks) = Kinds ks.items
view_caught (caught_value.As k n) = KindAs k n

abbrev pub view_span : span.Span → Span
view_span (span_value.Stop e) = Stop (view e)
view_span (span_value.StartStop e f) = StartStop (view e) (view f)
view_span (span_value.StartStopStep e f g) = StartStopStep (view e) (view f) (view g)
view_span (span_value.Constants cs) = Constants cs.items

abbrev pub view_header : header.Header → Header
view_header (header_value.If e) = If (view e)
view_header (header_value.Elif e) = Elif (view e)
view_header header_value.Else = Else
view_header (header_value.While e) = While (view e)
view_header (header_value.For n s) = For n (view_span s)
view_header header_value.Try = Try
view_header (header_value.Except c) = Except (view_caught c)
view_header (header_value.With e) = With (view e)

abbrev pub view_line : line.BodyLine → BodyLine
view_line (line_value.Statement s) = Simple (view_statement s)
view_line (line_value.Header h) = Heads (view_header h)

-- The height is the greatest of the expressions'. What a statement or a started call adds to them doesn't count.

abbrev pub optional_height : {A : Type 0} → (A → ℕ) → Option A → ℕ
optional_height of None = 0
optional_height of (Some x) = of x

abbrev pub greatest : {A : Type 0} → (A → ℕ) → List A → ℕ
greatest of [] = 0
greatest of (x ∷ xs) = max (of x) (greatest of xs)

abbrev pub argument_height : Argument → ℕ
argument_height a = height a.value

abbrev pub started_height : StartedCall → ℕ
started_height (FunctionCall n xs) = greatest argument_height xs
started_height (ClockStart e xs) = max (height e) (greatest argument_height xs)
started_height (QueuePut e x) = max (height e) (height x)
started_height (QueueGet e) = height e

abbrev pub timed_height : Timed → ℕ
timed_height (TimedValue e) = height e
timed_height (TimedCall f) = started_height f

abbrev pub awaited_height : Awaited → ℕ
awaited_height (AwaitedValue e) = height e
awaited_height (AwaitedCall f) = started_height f
awaited_height (AwaitedStart f) = started_height f
awaited_height (WithTimeout x e u) = max (timed_height x) (max (height e) (optional_height height u))

abbrev pub right_height : RightSide → ℕ
right_height (RightValue e) = height e
right_height (RightAwait a) = awaited_height a
right_height (RightStart f) = started_height f
right_height NewEvent = 0
right_height NewLock = 0
right_height (RandomInt a b) = max (height a) (height b)
right_height (NewQueue e) = optional_height height e
right_height (GetNow e) = height e

abbrev pub write_action_height : WriteAction → ℕ
write_action_height (Force e) = height e
write_action_height Freeze = 0
write_action_height Release = 0

abbrev pub logger_height : Logger → ℕ
logger_height CocotbLog = 0
logger_height (HierarchyLog e) = height e

abbrev pub statement_height : Statement → ℕ
statement_height Pass = 0
statement_height Break = 0
statement_height Continue = 0
statement_height (Return s) = optional_height right_height s
statement_height (Raise k e) = optional_height height e
statement_height (Assert c e) = max (height c) (optional_height height e)
statement_height (Assign n s) = right_height s
statement_height (AugmentedAssign n op e) = height e
statement_height (AssignValue e s) = max (height e) (right_height s)
statement_height (SetImmediateValue e v) = max (height e) (height v)
statement_height (Await a) = awaited_height a
statement_height (Act e a) = height e
statement_height (Log g l e es) = max (logger_height g) (max (height e) (greatest height es))
statement_height (StartSoon f) = started_height f
statement_height (PutNow e x) = max (height e) (height x)
statement_height (AssignAction e w) = max (height e) (write_action_height w)
statement_height (SetImmediateAction e w) = max (height e) (write_action_height w)

abbrev pub span_height : Span → ℕ
span_height (Stop e) = height e
span_height (StartStop e f) = max (height e) (height f)
span_height (StartStopStep e f g) = max (height e) (max (height f) (height g))
span_height (Constants cs) = 0

abbrev pub header_height : Header → ℕ
header_height (If e) = height e
header_height (Elif e) = height e
header_height Else = 0
header_height (While e) = height e
header_height (For n s) = span_height s
header_height Try = 0
header_height (Except c) = 0
header_height (With e) = height e

abbrev pub line_height : BodyLine → ℕ
line_height (Simple s) = statement_height s
line_height (Heads h) = header_height h
