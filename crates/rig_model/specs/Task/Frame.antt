-- What a task has still to do: its open calls, each with its names, their values, and the statements and marks that are left (the language
-- reference, 4.2, "Execution model", and 8.9.1, "Coroutine function definition").
use Rattle.std.specs.Prelude.{ℕ, List, [], ◌∷◌, ◌++◌, Option, None, Some, ℤ, slice_index_or, if◌then◌else◌}
use Rattle.std.specs.Str.{bytes_eq}
use Rattle.py_syntax.specs.ExpressionTrees.{Tree}
use Rattle.py_syntax.specs.declared.constant.Const.{Const}
use Rattle.py_value.specs.declared.trigger.LockNo.{LockNo}
use Rattle.py_value.specs.declared.trigger.TaskNo.{TaskNo}
use Rattle.py_value.specs.declared.value.Fault.{Fault}
use Rattle.py_value.specs.declared.value.Value.{Value}
use Rattle.py_evaluate.specs.Attribute.Look.{Names}
use Rattle.test_meaning.specs.Body.BodyTrees.{Item, Block, NoItem, Then, Handlers, Function}

-- ---- what is still to do in a call

-- What a `for` has still to go over: the numbers from the first on, before the second, each further by the third; or some constants.
pub data Left : Type 0 where
  Numbers : ℤ → ℤ → ℤ → Left
  Listed : List Const → Left

-- what is done with the value that an `await`, a started call or a new object gives
pub data Use : Type 0 where
  -- it gets a name
  Assigns : List ℕ → Use
  -- it is written to this signal
  Writes : Tree → Use
  -- the function returns it
  Returns : Use
  -- it is the task that a `with_timeout` has started, and waits for, for so many steps
  Times : ℕ → Use
  -- it is what this task gave, which a `with_timeout` has started
  Limited : TaskNo → Use
  -- the lock of an `async with` was acquired, and its block comes
  Enters : LockNo → Block → Use

-- a statement, or a mark
pub data Todo : Type 0 where
  Do : Item → Todo
  -- a `while`, whose condition is asked again
  Again : Tree → Block → Todo
  -- a `for`, which asks for its next element
  Each : List ℕ → Left → Block → Todo
  Uses : Use → Todo
  -- the handlers of a `try` whose block runs
  Handles : Handlers → Todo
  -- the name behind `as` of an `except` whose block runs
  Bound : List ℕ → Todo
  -- the lock of an `async with` whose block runs
  Holds : LockNo → Todo

-- what leaves blocks
pub data Jump : Type 0 where
  Throw : Fault → Jump
  Return : Value → Jump
  Break : Jump
  Continue : Jump

-- How a call goes on: with the first thing to do; with a value, which that is to use; or it leaves blocks, and drops the marks of these.
pub data Course : Type 0 where
  On : Course
  Has : Value → Course
  Leaves : Jump → Course

-- a call that hasn't returned
pub record Frame : Type 0 where
  pub names : Names
  pub course : Course
  pub todo : List Todo

-- its number, the number of its next trigger, and its open calls, the innermost first
pub record Task : Type 0 where
  pub number : TaskNo
  pub triggers : ℕ
  pub frames : List Frame

-- the statements of a block
abbrev pub items : Block → List Todo
items NoItem = []
items (Then i b) = Do i ∷ items b

-- ---- names

-- with this value of a name, or with none: it is unassigned then; the first entry of a name counts
abbrev pub with_local : Names → List ℕ → Option Value → Names
with_local [] n v = []
with_local (l ∷ ls) n v = if bytes_eq l.name n then record l { value = v } ∷ ls else l ∷ with_local ls n v

-- names with the values that there are, in order, and the others unassigned
abbrev pub locals_of : List (List ℕ) → List Value → Names
locals_of [] vs = []
locals_of (n ∷ ns) [] = record { name = n; value = None } ∷ locals_of ns []
locals_of (n ∷ ns) (v ∷ vs) = record { name = n; value = Some v } ∷ locals_of ns vs

-- ---- calls

-- a call of a function before its first step: it has all the names of the function, from the call to the end
abbrev pub entered : Function → List Value → Frame
entered f args = record { names = locals_of (f.parameters ++ f.others) args; course = On; todo = items f.body }

-- a function by its number
abbrev pub function_at : List Function → ℕ → Function
function_at functions n = slice_index_or functions n (record { parameters = []; others = []; body = NoItem })

-- a task of that number before its first turn
abbrev pub fresh : TaskNo → Function → List Value → Task
fresh number f args = record { number = number; triggers = 0; frames = entered f args ∷ [] }
