-- The functions of a file with those of the library behind them.
use Rattle.std.specs.Prelude.{ℕ, List, [], ◌∷◌, ◌++◌, map, Some, codes, pos}
use Rattle.py_syntax.specs.ExpressionTrees.{Tree, Constant, Name, Call, MethodCall, Infix, NoTree}
use Rattle.py_syntax.specs.ExpressionTrees as tree
use Rattle.py_syntax.specs.declared.constant.Const.TheVariants as constant
use Rattle.py_syntax.specs.declared.expression.BinOp.TheVariants as op
use Rattle.py_syntax.specs.declared.expression.BoolOp.TheVariants.{Or}
use Rattle.py_syntax.specs.declared.expression.Function.TheVariants.{Timer}
use Rattle.py_syntax.specs.declared.expression.Method.TheVariants.{Empty, Full}
use Rattle.py_syntax.specs.declared.expression.Operation.TheVariants.{Binary, Bool}
use Rattle.test_meaning.specs.Body.BodyTrees.{Function, NoItem, Item, Simple, While, Then, Assign, AssignValue, Await, AwaitedValue, AwaitedRoom, AwaitedItem, PutNow, Return, GetNow, RightValue}
use Rattle.test_meaning.specs.Bodies.{function_in}
use Rattle.test_meaning.specs.Rules.File.{File}

-- ---- what the text of `Clock.start` is made of

-- `n`
abbrev pub count : Tree
count = Name (codes "n")

abbrev pub whole : ℕ → Tree
whole n = Constant (constant.Whole (pos n))

-- `first`
abbrev pub first : Tree
first = Name (codes "first")

-- `cycles is None or n < cycles`
abbrev pub goes_on : Tree
goes_on =
    Infix (Bool Or) (Infix (Binary op.Is) (Name (codes "cycles")) (Constant constant.Absent)) (Infix (Binary op.Less) count (Name (codes "cycles")))

-- `n = ..`
abbrev pub set_count : Tree → Item
set_count e = Simple (Assign (codes "n") (RightValue e))

-- `s.value = ..`
abbrev pub write : Tree → Item
write e = Simple (AssignValue (Name (codes "s")) (RightValue e))

-- `await Timer(half, "step")`
abbrev pub wait_half : Item
wait_half = Simple (Await (AwaitedValue (Call Timer (tree.Then (Name (codes "half")) (tree.Then (Constant (constant.Text (codes "step"))) NoTree)))))

-- A clock's task (cocotb 1.8, `cocotb.clock.Clock.start`):
--
--     n = 0
--     while cycles is None or n < cycles:
--         s.value = first
--         await Timer(half, "step")
--         s.value = 1 - first
--         await Timer(half, "step")
--         n = n + 1
--
-- It is given the signal, half of the period, the digit that is written first, and how many cycles there are, or None.
abbrev pub clock_start : Function
clock_start = record {
  parameters = codes "s" ∷ codes "half" ∷ codes "first" ∷ codes "cycles" ∷ [];
  others = codes "n" ∷ [];
  body = Then (set_count (whole 0)) (Then (While goes_on
      (Then (write first) (Then wait_half (Then (write (Infix (Binary op.Subtract) (whole 1) first)) (Then wait_half
      (Then (set_count (Infix (Binary op.Add) count (whole 1))) NoItem)))))) NoItem);
}

-- `q`
abbrev pub queue : Tree
queue = Name (codes "q")

-- A put's task (cocotb 1.8, `cocotb.queue.Queue.put`):
--
--     while q.full():
--         await that there is room in q
--     q.put_nowait(x)
--
-- It is given the queue and the item.
abbrev pub queue_put : Function
queue_put = record {
  parameters = codes "q" ∷ codes "x" ∷ [];
  others = [];
  body = Then (While (MethodCall queue Full) (Then (Simple (Await (AwaitedRoom queue))) NoItem)) (Then (Simple (PutNow queue (Name (codes "x")))) NoItem);
}

-- A get's task (cocotb 1.8, `cocotb.queue.Queue.get`), which is given the queue:
--
--     while q.empty():
--         await that there is an item in q
--     return q.get_nowait()
abbrev pub queue_get : Function
queue_get = record {
  parameters = codes "q" ∷ [];
  others = [];
  body = Then (While (MethodCall queue Empty) (Then (Simple (Await (AwaitedItem queue))) NoItem)) (Then (Simple (Return (Some (GetNow queue)))) NoItem);
}

abbrev pub library : List Function
library = clock_start ∷ queue_put ∷ queue_get ∷ []

-- the functions by number, with those of the library behind them
abbrev pub functions : File → List Function
functions f = map (λ d. function_in f d.parameters d.body) f.functions ++ library
