-- What an accepted tests file stands for, without where it lies in memory (the language reference, 7 and 8): a function's number stands in
-- place of the name of each call, a value in place of each module constant, and a compound statement in place of its clauses. The rest is
-- as in the trees of `py_syntax`.
use Rattle.std.specs.Prelude.{ℕ, Bool, List, Option}
use Rattle.py_syntax.specs.ExpressionTrees.{Tree}
use Rattle.py_syntax.specs.StatementTrees.{Caught, Span}
use Rattle.py_syntax.specs.declared.constant.Const.{Const}
use Rattle.py_syntax.specs.declared.expression.BinOp.{BinOp}
use Rattle.py_syntax.specs.declared.fault_kind.FaultKind.{FaultKind}
use Rattle.py_syntax.specs.declared.statement.Action.{Action}
use Rattle.py_syntax.specs.declared.statement.LogLevel.{LogLevel}

-- an operand of a call, and the number of the parameter that it is for
pub record Operand : Type 0 where
  pub parameter : ℕ
  pub value : Tree

-- A call that makes a task: of the function of this number, or of `Clock.start`, which has this number, of a clock, or of `Queue.put` or
-- `Queue.get`, likewise, of a queue. The operands stand in the order in which they are evaluated. A clock's are for parameter 0, `cycles`, and
-- parameter 1, `start_high`. A put has the queue and the item.
pub data Call : Type 0 where
  FunctionCall : ℕ → List Operand → Call
  ClockStart : ℕ → Tree → List Operand → Call
  QueuePut : ℕ → Tree → Tree → Call
  QueueGet : ℕ → Tree → Call

-- what `with_timeout` waits for
pub data Timed : Type 0 where
  TimedValue : Tree → Timed
  TimedCall : Call → Timed

-- What stands behind `await`. That a queue has room, or an item, is awaited by the texts of `Queue.put` and `Queue.get` alone.
pub data Awaited : Type 0 where
  AwaitedValue : Tree → Awaited
  AwaitedCall : Call → Awaited
  AwaitedStart : Call → Awaited
  WithTimeout : Timed → Tree → Option Tree → Awaited
  AwaitedRoom : Tree → Awaited
  AwaitedItem : Tree → Awaited

pub data RightSide : Type 0 where
  RightValue : Tree → RightSide
  RightAwait : Awaited → RightSide
  RightStart : Call → RightSide
  NewEvent : RightSide
  NewLock : RightSide
  RandomInt : Tree → Tree → RightSide
  NewQueue : Option Tree → RightSide
  GetNow : Tree → RightSide

-- a write that is no value
pub data WriteAction : Type 0 where
  Force : Tree → WriteAction
  Freeze : WriteAction
  Release : WriteAction

pub data Logger : Type 0 where
  CocotbLog : Logger
  HierarchyLog : Tree → Logger

-- a statement of one line
pub data Statement : Type 0 where
  Pass : Statement
  Break : Statement
  Continue : Statement
  Return : Option RightSide → Statement
  Raise : FaultKind → Option Tree → Statement
  Assert : Tree → Option Tree → Statement
  Assign : List ℕ → RightSide → Statement
  AugmentedAssign : List ℕ → BinOp → Tree → Statement
  AssignValue : Tree → RightSide → Statement
  SetImmediateValue : Tree → Tree → Statement
  Await : Awaited → Statement
  Act : Tree → Action → Statement
  Log : Logger → LogLevel → Tree → List Tree → Statement
  StartSoon : Call → Statement
  PutNow : Tree → Tree → Statement
  AssignAction : Tree → WriteAction → Statement
  SetImmediateAction : Tree → WriteAction → Statement

mutual
  -- A statement of one line, or one with blocks. An `if` has the block of its `else`, in which an `elif` is an `if`.
  pub data Item : Type 0 where
    Simple : Statement → Item
    If : Tree → Block → Block → Item
    While : Tree → Block → Item
    For : List ℕ → Span → Block → Item
    Try : Block → Handlers → Item
    With : Tree → Block → Item

  pub data Block : Type 0 where
    NoItem : Block
    Then : Item → Block → Block

  -- what a `try` catches, in order
  pub data Handlers : Type 0 where
    NoHandler : Handlers
    Catch : Caught → Block → Handlers → Handlers

-- a function: its parameters, the other names that it assigns, each once, and its body
pub record Function : Type 0 where
  pub parameters : List (List ℕ)
  pub others : List (List ℕ)
  pub body : Block

-- a limit of simulated time: a number and a unit
pub record Limit : Type 0 where
  pub number : Const
  pub unit : Const

-- a test: its name, its function's number, a value for each parameter after the first, and the decorator's options
pub record Case : Type 0 where
  pub name : List ℕ
  pub function : ℕ
  pub arguments : List Const
  pub time : Option Limit
  pub expect_fail : Bool
  pub expect_error : Option FaultKind
  pub skip : Bool

-- the functions by number, `Clock.start`, `Queue.put` and `Queue.get` the last, and the tests in the order in which they run
pub record TestFile : Type 0 where
  pub functions : List Function
  pub cases : List Case
