-- A means of proof: short words for the trees and the views of worked rows.
use Rattle.std.specs.Prelude.{ℕ, suc, false, List, [], ◌∷◌, Some, codes, pos}
use Rattle.gpi.specs.declared.design.Spot.TheVariants.{Sig}
use Rattle.gpi.specs.declared.types.Region.TheVariants.{Begin}
use Rattle.four_value.specs.declared.Digit.TheVariants.{Z}
use Rattle.py_syntax.specs.ExpressionTrees.{Tree, Constant, FormatString, Name, Attribute, Call, Unary, Infix, NoTree, Parts, FormattedThen, NoPart, TextThen}
use Rattle.py_syntax.specs.ExpressionTrees as tree
use Rattle.py_syntax.specs.declared.constant.Const.TheVariants as constant
use Rattle.py_syntax.specs.declared.expression.BinOp.{BinOp}
use Rattle.py_syntax.specs.declared.expression.Function.{Function as Builtin}
use Rattle.py_syntax.specs.declared.expression.Function.TheVariants.{Timer}
use Rattle.py_syntax.specs.declared.expression.Operation.TheVariants as operation
use Rattle.py_syntax.specs.declared.expression.UnOp.TheVariants.{Negative}
use Rattle.py_syntax.specs.declared.fault_kind.FaultKind.{FaultKind}
use Rattle.py_syntax.specs.declared.statement.LogLevel.TheVariants.{Info}
use Rattle.py_value.specs.Answer.{plain_fault}
use Rattle.py_value.specs.Trigger as trigger
use Rattle.py_value.specs.declared.trigger.TaskNo.{TaskNo}
use Rattle.py_value.specs.declared.value.Value.{Value}
use Rattle.py_value.specs.declared.value.Value.TheVariants as value
use Rattle.py_evaluate.specs.Attribute.Look.{View}
use Rattle.test_meaning.specs.Body.BodyTrees as body
use Rattle.test_meaning.specs.Body.BodyTrees.{Operand, FunctionCall, AwaitedValue, AwaitedCall, RightSide, RightValue, HierarchyLog, Item, Simple, Block, NoItem, Function}
use Rattle.rig_model.specs.Task.Frame.{Task, fresh}
use Rattle.await_tree.specs.declared.cause.Given.{Given}
use Rattle.await_tree.specs.declared.cause.Given.TheVariants as given
use Rattle.rig_model.specs.declared.task.task.Turned.{Turned}
use Rattle.rig_model.specs.declared.task.task.Turned.TheVariants as turned

-- ---- expressions

abbrev pub num : ℕ → Tree
num n = Constant (constant.Whole (pos n))

abbrev pub minus : Tree → Tree
minus e = Unary Negative e

abbrev pub text : List ℕ → Tree
text t = Constant (constant.Text t)

abbrev pub two : BinOp → Tree → Tree → Tree
two o a b = Infix (operation.Binary o) a b

abbrev pub dut : Tree
dut = Name (codes "dut")

-- `dut.n.value`
abbrev pub read : List ℕ → Tree
read n = Attribute (Attribute dut n) (codes "value")

abbrev pub call1 : Builtin → Tree → Tree
call1 f a = Call f (tree.Then a NoTree)

-- `Timer(n, "step")`
abbrev pub timer : Tree → Tree
timer n = Call Timer (tree.Then n (tree.Then (text (codes "step")) NoTree))

-- the f-string of these parts, each `{e}`, with spaces between them
abbrev pub spaced : List Tree → Parts
spaced [] = NoPart
spaced (e ∷ []) = FormattedThen e NoPart
spaced (e ∷ es) = FormattedThen e (TextThen (codes " ") (spaced es))

abbrev pub shown : List Tree → Tree
shown es = FormatString (spaced es)

-- ---- statements

abbrev pub operands : ℕ → List Tree → List Operand
operands n [] = []
operands n (e ∷ es) = record { parameter = n; value = e } ∷ operands (suc n) es

-- a call of the function of this number
abbrev pub calls : ℕ → List Tree → body.Call
calls f es = FunctionCall f (operands 0 es)

abbrev pub set : List ℕ → RightSide → Item
set n s = Simple (body.Assign n s)

abbrev pub info : Tree → Item
info e = Simple (body.Log (HierarchyLog dut) Info e [])

abbrev pub awaits : Tree → Item
awaits e = Simple (body.Await (AwaitedValue e))

-- `await f(..)`
abbrev pub awaits_call : body.Call → Item
awaits_call c = Simple (body.Await (AwaitedCall c))

abbrev pub returns : Tree → Item
returns e = Simple (body.Return (Some (RightValue e)))

abbrev pub block : List Item → Block
block [] = NoItem
block (i ∷ is) = body.Then i (block is)

-- its parameters, its other names, its body
abbrev pub function_of : List (List ℕ) → List (List ℕ) → List Item → Function
function_of parameters others is = record { parameters = parameters; others = others; body = block is }

-- ---- a design with a net of eight digits and one of one, as a task sees it at the start; there is a lock, which is free

abbrev pub view : View
view = record {
  places = record { signals = codes "top.a" ∷ codes "top.clk" ∷ []; nodes = codes "top" ∷ [] };
  nodes = ((codes "a", Sig (record { 0 = 0 })) ∷ (codes "clk", Sig (record { 0 = 1 })) ∷ []) ∷ [];
  step_fs = 1000000;
  signals = (Z ∷ Z ∷ Z ∷ Z ∷ Z ∷ Z ∷ Z ∷ Z ∷ []) ∷ (Z ∷ []) ∷ [];
  time = 0;
  region = Begin;
  events = [];
  locks = false ∷ [];
  ended = [];
  queues = [];
}

abbrev pub top : Value
top = value.Place 0

-- ---- tasks and triggers

abbrev pub task : ℕ → TaskNo
task n = record { 0 = n }

-- the test's own task
abbrev pub test : Function → Task
test f = fresh (task 0) f (top ∷ [])

-- the trigger of this task with this number
abbrev pub trig : ℕ → ℕ → trigger.Form → trigger.Trig
trig n k form = trigger.Made (record { task = task n; number = k }) form

-- ---- answers

abbrev pub nothing : Given
nothing = given.Value value.Absent

abbrev pub fires : trigger.Trig → Given
fires t = given.Value (value.Trigger t)

abbrev pub is_task : ℕ → Given
is_task n = given.Value (value.Task (task n))

abbrev pub fails : FaultKind → Given
fails kind = given.Fault (plain_fault kind)

abbrev pub ends : Turned
ends = turned.Done value.Absent
