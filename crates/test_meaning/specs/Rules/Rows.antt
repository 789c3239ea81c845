-- A means of proof: worked rows, as trees of modules, by which the rules of a tests file are tried. What is expected was read from the
-- rules of the language, and nothing comes from the definitions.
use Rattle.std.specs.Prelude.{◌≡◌, ℕ, suc, true, false, List, [], ◌∷◌, ◌++◌, map, length, Some, None, codes, pos, replicate}
use Rattle.py_syntax.specs.BlockTrees.{Block, ModuleItem, TextAt, LineAt, FunctionAt, NoItem, Then, DocstringAt, StatementAt, ClauseAt}
use Rattle.py_syntax.specs.ExpressionTrees as tree
use Rattle.py_syntax.specs.ExpressionTrees.{Tree, NoTree, NoPart, TextThen, FormattedThen, FormatString, Name, Bracketed, Attribute, Subscript, Call, MethodCall, Unary, Infix}
use Rattle.py_syntax.specs.Line.{physical_line}
use Rattle.py_syntax.specs.ModuleTrees as line
use Rattle.py_syntax.specs.ModuleTrees.{ModuleLine, Import, FromImport, Test, Factory, AddOption, GenerateTests}
use Rattle.py_syntax.specs.StatementTrees.{Argument, StartedCall, FunctionCall, ClockStart, QueuePut, QueueGet, TimedValue, TimedCall, Awaited, AwaitedValue, AwaitedCall, AwaitedStart, WithTimeout, RightSide, RightValue, RightAwait, RightStart, NewEvent, NewLock, RandomInt, NewQueue, GetNow, Force, Freeze, Release, CocotbLog, HierarchyLog, Statement, Pass, Break, Continue, Return, Raise, Assert, Assign, AugmentedAssign, AssignValue, SetImmediateValue, Await, Act, Log, StartSoon, PutNow, AssignAction, SetImmediateAction, Caught, Kind, Kinds, KindAs, Stop, StartStop, StartStopStep, Constants, Header, If, Elif, While, For, Try, Except, With}
use Rattle.py_syntax.specs.declared.constant.Const.{Const}
use Rattle.py_syntax.specs.declared.constant.Const.TheVariants as constant
use Rattle.py_syntax.specs.declared.expression.BinOp.TheVariants as binary
use Rattle.py_syntax.specs.declared.expression.BoolOp.TheVariants as bool_operator
use Rattle.py_syntax.specs.declared.expression.UnOp.TheVariants as unary
use Rattle.py_syntax.specs.declared.expression.Operation.TheVariants as operation
use Rattle.py_syntax.specs.declared.expression.Function.TheVariants as python
use Rattle.py_syntax.specs.declared.expression.Method.TheVariants as method
use Rattle.py_syntax.specs.declared.fault_kind.FaultKind.TheVariants as kind
use Rattle.py_syntax.specs.declared.module.Parameter.{Parameter}
use Rattle.py_syntax.specs.declared.module.Setting.{Setting}
use Rattle.py_syntax.specs.declared.statement.Action.TheVariants as action
use Rattle.py_syntax.specs.declared.statement.LogLevel.TheVariants as level
use Rattle.test_meaning.specs.declared.rules.rule.FileRule.{FileRule}
use Rattle.test_meaning.specs.declared.rules.rule.FileRule.TheVariants as rule
use Rattle.test_meaning.specs.Rules.Rules.{refusal}
use Rattle.test_meaning.specs.Rules.File.{file_of}

abbrev pub Refuses : List ModuleItem → FileRule → ℕ → Type 0
Refuses xs r l = refusal (file_of xs) ≡ Some (record { rule = r; line = physical_line l })

-- each of these files
abbrev pub Refuses_each : List (List ModuleItem) → FileRule → ℕ → Type 0
Refuses_each xss r l = map (λ xs. refusal (file_of xs)) xss ≡ replicate (length xss) (Some (record { rule = r; line = physical_line l }))

abbrev pub Keeps : List ModuleItem → Type 0
Keeps xs = refusal (file_of xs) ≡ None

-- ---- parts of files

abbrev pub whole : ℕ → Const
whole n = constant.Whole (pos n)

abbrev pub truth : Const
truth = constant.Truth true

abbrev pub text : Const
text = constant.Text (codes "ns")

abbrev pub named : List ℕ → Const
named n = constant.Named n

abbrev pub parameter : List ℕ → Parameter
parameter n = record { name = n; default = None }

abbrev pub defaulted : List ℕ → Const → Parameter
defaulted n c = record { name = n; default = Some c }

abbrev pub setting : List ℕ → Const → Setting
setting n c = record { name = n; value = c }

-- statements on the lines from this one on
abbrev pub statements : ℕ → List Statement → Block
statements l [] = NoItem
statements l (s ∷ ss) = Then (StatementAt l s) (statements (suc l) ss)

-- a function whose header stands on this line
abbrev pub function : ℕ → List ℕ → List Parameter → List Statement → ModuleItem
function l f ps ss = FunctionAt l f ps (statements (suc l) ss)

-- lines of the module from this one on
abbrev pub lines : ℕ → List ModuleLine → List ModuleItem
lines l [] = []
lines l (x ∷ xs) = LineAt l x ∷ lines (suc l) xs

abbrev pub import_cocotb : ModuleItem
import_cocotb = LineAt 1 (Import (codes "cocotb"))

abbrev pub from_cocotb : List ℕ → List (List ℕ) → ModuleLine
from_cocotb m ns = FromImport (codes "cocotb" ∷ m ∷ []) ns

-- `@cocotb.test()` and `async def t(dut):` from this line on, with these statements
abbrev pub test_at : ℕ → List Statement → List ModuleItem
test_at l ss = LineAt l (Test []) ∷ function (suc l) (codes "t") (parameter (codes "dut") ∷ []) ss ∷ []

-- `from cocotb.regression import TestFactory`
abbrev pub import_factory : ModuleItem
import_factory = LineAt 1 (from_cocotb (codes "regression") (codes "TestFactory" ∷ []))

-- `@cocotb.test(..)` with these options and `async def t(dut):` from this line on
abbrev pub test_with : ℕ → List Setting → List ModuleItem
test_with l ss = LineAt l (Test ss) ∷ function (suc l) (codes "t") (parameter (codes "dut") ∷ []) (Pass ∷ []) ∷ []

-- `import cocotb`, and a test without options from line 2 on
abbrev pub test : List Statement → List ModuleItem
test ss = import_cocotb ∷ test_at 2 ss

-- ---- `import ..`, `@cocotb.test(..)`, `async def t(dut):` and a statement

abbrev pub file : List ℕ → List Setting → Statement → List ModuleItem
file m ss s = LineAt 1 (Import m) ∷ LineAt 2 (Test ss) ∷ function 3 (codes "t") (parameter (codes "dut") ∷ []) (s ∷ []) ∷ []

-- ---- factories

abbrev pub add : List ℕ → Const → ModuleLine
add o c = AddOption (codes "tf") o (c ∷ [])

abbrev pub generate : ModuleLine
generate = GenerateTests (codes "tf") None None

-- `from cocotb.regression import TestFactory`, `async def f(..):` with these parameters, and these lines from line 4 on
abbrev pub factory_lines : List Parameter → List ModuleLine → List ModuleItem
factory_lines ps xs = import_factory ∷ function 2 (codes "f") ps (Pass ∷ []) ∷ lines 4 xs

abbrev pub make_factory : ModuleLine
make_factory = Factory (codes "tf") (codes "f")

-- `async def f(dut, x, y=0):`, `tf = TestFactory(f)` on line 4, and these lines from line 5 on
abbrev pub made : List ModuleLine → List ModuleItem
made xs = factory_lines (parameter (codes "dut") ∷ parameter (codes "x") ∷ defaulted (codes "y") (whole 0) ∷ []) (make_factory ∷ xs)

-- `import cocotb`, `from cocotb.regression import TestFactory`, `@cocotb.test()`, `async def f(..):` with these parameters, and these lines from
-- line 6 on
abbrev pub decorated_factory_lines : List Parameter → List ModuleLine → List ModuleItem
decorated_factory_lines ps xs =
    import_cocotb ∷ LineAt 2 (from_cocotb (codes "regression") (codes "TestFactory" ∷ [])) ∷ LineAt 3 (Test []) ∷ function 4 (codes "f") ps (Pass ∷ [])
    ∷ lines 6 xs

-- so many values of `x` and of `y`, and the tests
abbrev pub values : ℕ → ℕ → List ModuleLine
values m n = AddOption (codes "tf") (codes "x") (replicate m (whole 0)) ∷ AddOption (codes "tf") (codes "y") (replicate n (whole 0)) ∷ generate ∷ []

abbrev pub factory : ℕ → ℕ → List ModuleItem
factory m n = made (values m n)

-- ---- one file for each rule

abbrev pub Refused_rows : Type 0
Refused_rows =
    Refuses (file (codes "os") [] Pass) rule.UnknownImport 1
    × Refuses (file (codes "cocotb") [] (Assign (codes "x") (RightValue (Name (codes "y"))))) rule.UnknownName 4
    × Refuses (file (codes "cocotb") [] Break) rule.Misplaced 4
    × Refuses (import_cocotb ∷ LineAt 2 (Import (codes "cocotb")) ∷ []) rule.DuplicateName 2
    × Refuses (file (codes "cocotb") (setting (codes "skip") (whole 1) ∷ []) Pass) rule.BadOption 2
    × Refuses (factory 257 256) rule.TooManyCases 7
    × Refuses (import_cocotb ∷ []) rule.NoTests 1

-- files that keep all rules
abbrev pub Kept_rows : Type 0
Kept_rows = Keeps (file (codes "cocotb") [] Pass) × Keeps (factory 256 256)

-- ---- imports

-- all that may be imported, on nine lines
abbrev pub imports : List ModuleItem
imports = lines 1 (
    Import (codes "cocotb") ∷ Import (codes "random")
    ∷ from_cocotb (codes "triggers") (codes "Timer" ∷ codes "Edge" ∷ codes "RisingEdge" ∷ codes "FallingEdge" ∷ codes "ReadWrite" ∷ codes "ReadOnly"
    ∷ codes "NextTimeStep" ∷ codes "Event" ∷ codes "Lock" ∷ codes "Join" ∷ codes "First" ∷ codes "Combine" ∷ codes "ClockCycles"
    ∷ codes "TriggerException" ∷ codes "with_timeout" ∷ [])
    ∷ from_cocotb (codes "clock") (codes "Clock" ∷ []) ∷ from_cocotb (codes "regression") (codes "TestFactory" ∷ [])
    ∷ from_cocotb (codes "result") (codes "SimTimeoutError" ∷ []) ∷ from_cocotb (codes "utils") (codes "get_sim_time" ∷ [])
    ∷ from_cocotb (codes "handle") (codes "Force" ∷ codes "Freeze" ∷ codes "Release" ∷ [])
    ∷ from_cocotb (codes "queue") (codes "Queue" ∷ codes "QueueEmpty" ∷ codes "QueueFull" ∷ []) ∷ [])

-- All of them may be; but not `from cocotb import Timer`, `from random import randint`, `from cocotb.triggers import Clock`,
-- `from cocotb.triggers import Timer, Clock`, `from cocotb.queue import PriorityQueue` and `from cocotb.handle import Deposit`.
abbrev pub Import_rows : Type 0
Import_rows =
    Keeps (imports ++ test_at 10 (Pass ∷ []))
    × Refuses_each (
    map (λ x. LineAt 1 x ∷ []) (
    FromImport (codes "cocotb" ∷ []) (codes "Timer" ∷ []) ∷ FromImport (codes "random" ∷ []) (codes "randint" ∷ [])
    ∷ from_cocotb (codes "triggers") (codes "Clock" ∷ []) ∷ from_cocotb (codes "triggers") (codes "Timer" ∷ codes "Clock" ∷ [])
    ∷ from_cocotb (codes "queue") (codes "PriorityQueue" ∷ []) ∷ from_cocotb (codes "handle") (codes "Deposit" ∷ []) ∷ []))
    rule.UnknownImport 1

-- ---- names as values

abbrev pub value : List ℕ → RightSide
value n = RightValue (Name n)

abbrev pub one : Tree
one = tree.Constant (whole 1)

-- `x = ..` in a test, with these items behind it
abbrev pub reads : List ℕ → List ModuleItem → List ModuleItem
reads n xs = test (Assign (codes "x") (value n) ∷ []) ++ xs

abbrev pub constant_at : ℕ → List ℕ → Const → ModuleItem
constant_at l n c = LineAt l (line.Constant n c)

-- A value may be a parameter, a name that the function assigns further down, by `=`, by `for` or by `as`, even one that the module has for
-- another thing, and a constant of the module, wherever it stands. Not known: what another function assigns, and another parameter
-- in a default. Known and no value: modules, functions, Python's own functions and kinds of faults.
abbrev pub Name_rows : Type 0
Name_rows =
    Keeps (reads (codes "dut") []) × Keeps (reads (codes "x") []) × Keeps (reads (codes "K") (constant_at 5 (codes "K") (whole 1) ∷ []))
    × Keeps (test (Assign (codes "x") (value (codes "cocotb")) ∷ AugmentedAssign (codes "cocotb") binary.Add one ∷ []))
    × Keeps (import_cocotb ∷ LineAt 2 (Test []) ∷ FunctionAt 3 (codes "t") (parameter (codes "dut") ∷ []) (
    Then (StatementAt 4 (Assign (codes "x") (value (codes "i")))) (
    Then (StatementAt 5 (Assign (codes "x") (value (codes "e")))) (
    Then (ClauseAt 6 (For (codes "i") (Constants [])) (Then (ClauseAt 7 Try (statements 8 (Pass ∷ []))) (
    Then (ClauseAt 9 (Except (KindAs kind.ValueError (codes "e"))) (statements 10 (Pass ∷ []))) NoItem))) NoItem))) ∷ [])
    × Refuses (reads (codes "y") (function 5 (codes "g") (parameter (codes "y") ∷ []) (Assign (codes "y") (RightValue one) ∷ []) ∷ [])) rule.UnknownName 4
    × Refuses (test (Pass ∷ []) ++ function 5 (codes "g") (parameter (codes "a") ∷ defaulted (codes "b") (named (codes "a")) ∷ []) (Pass ∷ []) ∷ [])
    rule.UnknownName 5
    × Refuses_each (
    map (λ n. reads n (function 5 (codes "g") [] (Pass ∷ []) ∷ [])) (
    codes "cocotb" ∷ codes "t" ∷ codes "g" ∷ codes "int" ∷ codes "str" ∷ codes "bool" ∷ codes "len" ∷ codes "range" ∷ codes "ValueError" ∷ []))
    rule.Misplaced 4

-- ---- each place of a name

abbrev pub argument : Tree → Argument
argument e = record { name = None; value = e }

abbrev pub given : List ℕ → Tree → Argument
given n e = record { name = Some n; value = e }

-- a name that nothing defines
abbrev pub unknown : Tree
unknown = Name (codes "unknown")

abbrev pub unknown_trees : List Tree
unknown_trees =
    unknown ∷ FormatString (TextThen (codes "a") (FormattedThen one (FormattedThen unknown NoPart))) ∷ Bracketed unknown
    ∷ Attribute unknown (codes "q") ∷ Subscript unknown one ∷ Subscript one unknown ∷ Call python.Int (tree.Then unknown NoTree)
    ∷ Call python.Timer (tree.Then one (tree.Then unknown NoTree)) ∷ MethodCall unknown method.Done ∷ Unary unary.Not unknown
    ∷ Infix (operation.Bool bool_operator.Or) unknown one ∷ Infix (operation.Binary binary.Add) one unknown ∷ []

-- `unknown(1)`, `g(unknown)`, `g(1, b=unknown)`, `unknown.start()` and `1 .start(cycles=unknown)`, `unknown.put(1)`, `1 .put(unknown)`, `unknown.get()`
abbrev pub unknown_calls : List StartedCall
unknown_calls =
    FunctionCall (codes "unknown") (argument one ∷ []) ∷ FunctionCall (codes "g") (argument unknown ∷ [])
    ∷ FunctionCall (codes "g") (argument one ∷ given (codes "b") unknown ∷ []) ∷ ClockStart unknown [] ∷ ClockStart one (given (codes "cycles") unknown ∷ [])
    ∷ QueuePut unknown one ∷ QueuePut one unknown ∷ QueueGet unknown ∷ []

abbrev pub unknown_awaited : List Awaited
unknown_awaited =
    AwaitedValue unknown ∷ map AwaitedCall unknown_calls ++ map AwaitedStart unknown_calls ++ map (λ c. WithTimeout (TimedCall c) one None) unknown_calls
    ++ WithTimeout (TimedValue unknown) one None ∷ WithTimeout (TimedValue one) unknown None ∷ WithTimeout (TimedValue one) one (Some unknown) ∷ []

abbrev pub unknown_sides : List RightSide
unknown_sides =
    map RightValue unknown_trees ++ map RightAwait unknown_awaited ++ map RightStart unknown_calls ++ RandomInt unknown one ∷ RandomInt one unknown ∷ NewQueue (Some unknown)
    ∷ GetNow unknown ∷ []

abbrev pub unknown_statements : List Statement
unknown_statements =
    map (λ s. Return (Some s)) unknown_sides ++ map StartSoon unknown_calls
    ++ Raise kind.ValueError (Some unknown) ∷ Assert unknown None ∷ Assert one (Some unknown) ∷ Assign (codes "x") (RightValue unknown)
    ∷ AugmentedAssign (codes "x") binary.Add unknown ∷ AssignValue unknown (RightValue one) ∷ AssignValue one (RightValue unknown)
    ∷ SetImmediateValue unknown one ∷ SetImmediateValue one unknown ∷ Await (AwaitedValue unknown) ∷ Act unknown action.Set
    ∷ Log (HierarchyLog unknown) level.Info one [] ∷ Log CocotbLog level.Info unknown [] ∷ Log CocotbLog level.Info one (one ∷ unknown ∷ [])
    ∷ PutNow unknown one ∷ PutNow one unknown ∷ AssignAction unknown Freeze ∷ AssignAction one (Force unknown) ∷ SetImmediateAction unknown Freeze
    ∷ SetImmediateAction one (Force unknown) ∷ []

abbrev pub unknown_headers : List Header
unknown_headers =
    If unknown ∷ Elif unknown ∷ While unknown ∷ With unknown
    ∷ map (For (codes "i")) (Stop unknown ∷ StartStop unknown one ∷ StartStop one unknown ∷ StartStopStep unknown one one ∷ StartStopStep one unknown one
    ∷ StartStopStep one one unknown ∷ Constants (whole 1 ∷ named (codes "unknown") ∷ []) ∷ [])

abbrev pub unknown_lines : List ModuleLine
unknown_lines =
    line.Constant (codes "A") (named (codes "unknown")) ∷ Factory (codes "A") (codes "unknown") ∷ AddOption (codes "unknown") (codes "x") []
    ∷ GenerateTests (codes "unknown") None None ∷ []

-- all imports, `async def g(a, b=1):`, and a test with this block from line 14 on
abbrev pub in_test : Block → List ModuleItem
in_test b =
    imports ++ function 10 (codes "g") (parameter (codes "a") ∷ defaulted (codes "b") (whole 1) ∷ []) (Pass ∷ []) ∷ LineAt 12 (Test [])
    ∷ FunctionAt 13 (codes "t") (parameter (codes "dut") ∷ []) b ∷ []

-- A name that nothing defines is found in each part of an expression, of a statement, of a header and of a line of the module.
abbrev pub Place_rows : Type 0
Place_rows =
    Refuses_each (map (λ s. in_test (statements 14 (s ∷ []))) unknown_statements) rule.UnknownName 14
    × Refuses_each (map (λ h. in_test (Then (ClauseAt 14 h (statements 15 (Pass ∷ []))) NoItem)) unknown_headers) rule.UnknownName 14
    × Refuses_each (map (λ x. import_factory ∷ LineAt 2 x ∷ []) unknown_lines) rule.UnknownName 2

-- ---- names by which a form is known

abbrev pub call_g : StartedCall
call_g = FunctionCall (codes "g") (argument one ∷ [])

-- each wants an import
abbrev pub imported_forms : List Statement
imported_forms =
    Return (Some (RightValue (Call python.Timer (tree.Then one NoTree)))) ∷ Return (Some (RightValue (Call python.GetSimTime NoTree)))
    ∷ Await (AwaitedStart call_g) ∷ Await (WithTimeout (TimedCall call_g) one None) ∷ Return (Some (RightStart call_g)) ∷ Return (Some NewEvent)
    ∷ Return (Some NewLock) ∷ Return (Some (RandomInt one one)) ∷ Raise kind.SimTimeoutError None ∷ Raise kind.TriggerException None
    ∷ Log CocotbLog level.Info one [] ∷ StartSoon call_g ∷ Return (Some (NewQueue None)) ∷ Raise kind.QueueEmpty None ∷ Raise kind.QueueFull None
    ∷ AssignAction one (Force one) ∷ AssignAction one Freeze ∷ SetImmediateAction one Release ∷ []

abbrev pub imported_catches : List Caught
imported_catches =
    Kind kind.TriggerException ∷ Kinds (kind.ValueError ∷ kind.SimTimeoutError ∷ []) ∷ KindAs kind.SimTimeoutError (codes "e") ∷ []

-- `int(str(bool(len(dut))))`, `for i in range(1):`, and all kinds of faults that Python has
abbrev pub built_in_forms : Block
built_in_forms =
    Then (StatementAt 14 (Return (Some (RightValue (Call python.Int (tree.Then (Call python.Str (tree.Then (Call python.Bool (
    tree.Then (Call python.Len (tree.Then (Name (codes "dut")) NoTree)) NoTree)) NoTree)) NoTree)))))) (
    Then (ClauseAt 15 (For (codes "i") (Stop one)) (statements 16 (Pass ∷ []))) (
    Then (ClauseAt 17 Try (statements 18 (Pass ∷ []))) (
    Then (ClauseAt 19 (Except (Kinds (kind.AssertionError ∷ kind.AttributeError ∷ kind.IndexError ∷ kind.OverflowError ∷ kind.RuntimeError ∷ kind.TypeError
    ∷ kind.UnboundLocalError ∷ kind.ValueError ∷ kind.ZeroDivisionError ∷ kind.Exception ∷ []))) (statements 20 (Pass ∷ []))) NoItem)))

-- `async def g(a):` from line 1 on, `try:` with `pass`, and such an `except` on line 4
abbrev pub catching : Caught → List ModuleItem
catching c =
    FunctionAt 1 (codes "g") (parameter (codes "a") ∷ []) (
    Then (ClauseAt 2 Try (statements 3 (Pass ∷ []))) (Then (ClauseAt 4 (Except c) (statements 5 (Pass ∷ []))) NoItem)) ∷ []

-- Also `Timer(1)` where the function assigns `Timer`, and where the import stands below; and `@cocotb.test()` without `import cocotb`.
abbrev pub Form_rows : Type 0
Form_rows =
    Keeps (in_test (statements 14 imported_forms)) × Keeps (in_test built_in_forms)
    × Keeps (test (Await (AwaitedValue (Call python.Timer (tree.Then one NoTree))) ∷ Assign (codes "Timer") (RightValue one) ∷ []))
    × Keeps (test (Await (AwaitedValue (Call python.Timer (tree.Then one NoTree))) ∷ []) ++ LineAt 5 (from_cocotb (codes "triggers") (codes "Timer" ∷ [])) ∷ [])
    × Refuses_each (map (λ s. function 1 (codes "g") (parameter (codes "a") ∷ []) (s ∷ []) ∷ []) imported_forms) rule.UnknownName 2
    × Refuses_each (map catching imported_catches) rule.UnknownName 4
    × Refuses (test_at 1 (Pass ∷ [])) rule.UnknownName 1
    × Refuses (import_cocotb ∷ test_with 2 (setting (codes "expect_error") (named (codes "SimTimeoutError")) ∷ [])) rule.UnknownName 2
    × Refuses (import_cocotb ∷ function 2 (codes "f") (parameter (codes "dut") ∷ []) (Pass ∷ []) ∷ LineAt 4 (Factory (codes "tf") (codes "f")) ∷ [])
    rule.UnknownName 4

-- ---- what has to stand above

abbrev pub constant_k : ℕ → ModuleItem
constant_k l = constant_at l (codes "K") (whole 1)

-- `A = K` on this line
abbrev pub copy_of_k : ℕ → ModuleItem
copy_of_k l = constant_at l (codes "A") (named (codes "K"))

-- `async def g(a, b=K):` on this line
abbrev pub default_k : ℕ → ModuleItem
default_k l = function l (codes "g") (parameter (codes "a") ∷ defaulted (codes "b") (named (codes "K")) ∷ []) (Pass ∷ [])

-- a test with `@cocotb.test(timeout_time=K)` on this line
abbrev pub timeout_k : ℕ → List ModuleItem
timeout_k l = test_with l (setting (codes "timeout_time") (named (codes "K")) ∷ [])

-- `for i in [..]:` with this name, on this line
abbrev pub loop_over : List ℕ → ℕ → Block
loop_over n l = Then (ClauseAt l (For (codes "i") (Constants (named n ∷ []))) (statements (suc l) (Pass ∷ []))) NoItem

-- `async def h():` on this line, and `for i in [K]:` on the next one
abbrev pub loop_over_k : ℕ → ModuleItem
loop_over_k l = FunctionAt l (codes "h") [] (loop_over (codes "K") (suc l))

-- What a constant names has to be a constant of the module above it, whatever the function assigns. A factory's function has to stand above the
-- factory, and the factory above its options and its tests. A function that is called may stand below.
abbrev pub Above_rows : Type 0
Above_rows =
    Keeps (import_cocotb ∷ constant_k 2 ∷ copy_of_k 3 ∷ default_k 4 ∷ timeout_k 6 ++ loop_over_k 9 ∷ [])
    × Refuses_each (map (λ xs. import_cocotb ∷ xs ++ constant_k 9 ∷ []) ((copy_of_k 2 ∷ []) ∷ (default_k 2 ∷ []) ∷ timeout_k 2 ∷ [])) rule.Misplaced 2
    × Refuses (loop_over_k 1 ∷ constant_k 9 ∷ []) rule.Misplaced 2
    × Refuses (in_test (Then (StatementAt 14 (Assign (codes "K") (RightValue one))) (loop_over (codes "K") 15))) rule.Misplaced 15
    × Keeps (factory_lines (parameter (codes "dut") ∷ parameter (codes "x") ∷ []) (
    line.Constant (codes "K") (whole 1) ∷ make_factory ∷ add (codes "x") (named (codes "K")) ∷ generate ∷ []))
    × Refuses (made (add (codes "x") (named (codes "K")) ∷ line.Constant (codes "K") (whole 1) ∷ [])) rule.Misplaced 5
    × Refuses_each (
    map (λ xs. import_cocotb ∷ xs) (
    map (λ n. constant_at 2 (codes "A") (named n) ∷ []) (codes "A" ∷ codes "cocotb" ∷ codes "ValueError" ∷ [])
    ++ test_with 2 (setting (codes "skip") (named (codes "ValueError")) ∷ []) ∷ []))
    rule.Misplaced 2
    × Refuses (import_factory ∷ LineAt 2 make_factory
    ∷ function 3 (codes "f") (parameter (codes "dut") ∷ []) (Pass ∷ []) ∷ []) rule.Misplaced 2
    × Refuses_each (
    map (λ x. factory_lines (parameter (codes "dut") ∷ parameter (codes "x") ∷ []) (x ∷ make_factory ∷ [])) (
    add (codes "x") (whole 0) ∷ generate ∷ Factory (codes "tg") (codes "TestFactory") ∷ AddOption (codes "f") (codes "x") []
    ∷ GenerateTests (codes "f") None None ∷ []))
    rule.Misplaced 4
    × Keeps (test (Await (AwaitedCall call_g) ∷ []) ++ function 5 (codes "g") (parameter (codes "a") ∷ []) (Pass ∷ []) ∷ [])

-- ---- the arguments of a call

-- such a call, where the function is `async def g(a, b=1):`
abbrev pub calling : List ℕ → List Argument → List ModuleItem
calling f xs = in_test (statements 14 (Await (AwaitedCall (FunctionCall f xs)) ∷ []))

-- `g(1)`, `g(a=1)`, `g(1, 1)`, `g(1, b=1)` and `g(b=1, a=1)`; but not `g()`, `g(b=1)`, `g(1, 1, 1)`, `g(1, a=1)`, `g(a=1, a=1)` and `g(1, c=1)`;
-- a call means the file's function, also where the function assigns its name; and nothing else that is known can be called so
abbrev pub Call_rows : Type 0
Call_rows =
    Keeps (in_test (statements 14 (map (λ xs. Await (AwaitedCall (FunctionCall (codes "g") xs))) (
    (argument one ∷ []) ∷ (given (codes "a") one ∷ []) ∷ (argument one ∷ argument one ∷ []) ∷ (argument one ∷ given (codes "b") one ∷ [])
    ∷ (given (codes "b") one ∷ given (codes "a") one ∷ []) ∷ []))))
    × Refuses_each (
    map (calling (codes "g")) (
    [] ∷ (given (codes "b") one ∷ []) ∷ (argument one ∷ argument one ∷ argument one ∷ []) ∷ (argument one ∷ given (codes "a") one ∷ [])
    ∷ (given (codes "a") one ∷ given (codes "a") one ∷ []) ∷ (argument one ∷ given (codes "c") one ∷ []) ∷ []))
    rule.Misplaced 14
    × Keeps (in_test (statements 14 (Assign (codes "g") (RightValue one) ∷ Await (AwaitedCall call_g) ∷ [])))
    × Refuses_each (map (λ f. calling f (argument one ∷ [])) (codes "dut" ∷ codes "Lock" ∷ codes "ValueError" ∷ [])) rule.Misplaced 14

-- ---- loops

abbrev pub leaving : List Statement
leaving = Break ∷ Continue ∷ []

-- `break` and `continue` stand in a loop, also under an `if` there; not behind it, and not under an `if` alone.
abbrev pub Loop_rows : Type 0
Loop_rows =
    Keeps (in_test (Then (ClauseAt 14 (While one) (Then (ClauseAt 15 (If one) (statements 16 leaving)) (statements 18 leaving))) NoItem))
    × Keeps (in_test (Then (ClauseAt 14 (For (codes "i") (Stop one)) (statements 15 leaving)) NoItem))
    × Refuses_each (map (λ s. in_test (Then (ClauseAt 14 (While one) (statements 15 (Pass ∷ []))) (statements 16 (s ∷ [])))) leaving) rule.Misplaced 16
    × Refuses_each (map (λ s. in_test (Then (ClauseAt 14 (If one) (statements 15 (s ∷ []))) NoItem)) leaving) rule.Misplaced 15

-- ---- decorators, and parameters that tests need

-- `import cocotb`, `@cocotb.test()` and these items
abbrev pub decorated : List ModuleItem → List ModuleItem
decorated xs = import_cocotb ∷ LineAt 2 (Test []) ∷ xs

abbrev pub test_of : List Parameter → List ModuleItem
test_of ps = decorated (function 3 (codes "t") ps (Pass ∷ []) ∷ [])

-- A decorator before a line, a docstring or another decorator, or at the end. A test without a parameter, or with a second one that has
-- no default, where it isn't a factory's; a factory's function without a parameter. Other functions may have any.
abbrev pub Decorator_rows : Type 0
Decorator_rows =
    Refuses_each (map decorated ((constant_k 3 ∷ test_at 4 (Pass ∷ [])) ∷ (TextAt 3 ∷ test_at 4 (Pass ∷ [])) ∷ test_at 3 (Pass ∷ []) ∷ [] ∷ [])) rule.Misplaced 2
    × Refuses_each (map test_of ([] ∷ (parameter (codes "dut") ∷ parameter (codes "x") ∷ defaulted (codes "y") (whole 1) ∷ []) ∷ [])) rule.Misplaced 3
    × Keeps (test_of (parameter (codes "dut") ∷ defaulted (codes "x") (whole 1) ∷ []))
    × Keeps (test (Pass ∷ []) ++ function 5 (codes "g") [] (Pass ∷ []) ∷ function 7 (codes "h") (parameter (codes "dut") ∷ parameter (codes "t") ∷ []) (Pass ∷ []) ∷ [])
    × Keeps (decorated_factory_lines (parameter (codes "dut") ∷ parameter (codes "x") ∷ []) (make_factory ∷ add (codes "x") (whole 0) ∷ generate ∷ []))
    × Refuses (factory_lines [] (make_factory ∷ generate ∷ [])) rule.Misplaced 2

-- ---- names that are defined twice

-- Two functions, two constants, an import and a function, a function and a constant, a name of one import line, a parameter, and two factories:
-- always the second one is refused, and the first one is meant, by a call and by an option.
abbrev pub Duplicate_rows : Type 0
Duplicate_rows =
    Refuses_each (
    map (λ x. test (Pass ∷ []) ++ constant_k 5 ∷ x ∷ []) (
    function 6 (codes "t") [] (Pass ∷ []) ∷ constant_k 6 ∷ function 6 (codes "cocotb") [] (Pass ∷ []) ∷ constant_at 6 (codes "t") (whole 1)
    ∷ LineAt 6 (from_cocotb (codes "triggers") (codes "Lock" ∷ codes "Timer" ∷ codes "Lock" ∷ []))
    ∷ function 6 (codes "g") (parameter (codes "a") ∷ parameter (codes "b") ∷ defaulted (codes "a") (whole 1) ∷ []) (Pass ∷ []) ∷ []))
    rule.DuplicateName 6
    × Refuses (made (make_factory ∷ [])) rule.DuplicateName 5
    × Refuses (test (Await (AwaitedCall call_g) ∷ []) ++ function 5 (codes "g") (parameter (codes "a") ∷ []) (Pass ∷ []) ∷ function 7 (codes "g") [] (Pass ∷ []) ∷ [])
    rule.DuplicateName 7
    × Refuses (import_cocotb ∷ constant_k 2 ∷ test_with 3 (setting (codes "timeout_time") (named (codes "K")) ∷ []) ++ constant_at 6 (codes "K") truth ∷ [])
    rule.DuplicateName 6

-- ---- options of the decorator

-- All five, by themselves and by constants of the module, though a kind of faults stays one; but none twice, no other one, no unit without its
-- time, and no value of another kind.
abbrev pub Option_rows : Type 0
Option_rows =
    Keeps (import_cocotb ∷ test_with 2 (setting (codes "timeout_unit") text ∷ setting (codes "timeout_time") (whole 1) ∷ setting (codes "expect_fail") truth
    ∷ setting (codes "expect_error") (named (codes "ValueError")) ∷ setting (codes "skip") (constant.Truth false) ∷ []))
    × Keeps (import_cocotb ∷ constant_k 2 ∷ constant_at 3 (codes "A") (named (codes "K")) ∷ constant_at 4 (codes "ValueError") (whole 6)
    ∷ test_with 5 (setting (codes "timeout_time") (named (codes "A")) ∷ setting (codes "expect_error") (named (codes "ValueError")) ∷ []))
    × Refuses (import_cocotb ∷ constant_k 2 ∷ test_with 3 (setting (codes "skip") (named (codes "K")) ∷ [])) rule.BadOption 3
    × Refuses_each (
    map (λ ss. import_cocotb ∷ test_with 2 ss) (
    (setting (codes "skip") truth ∷ setting (codes "skip") truth ∷ []) ∷ (setting (codes "timeout_unit") text ∷ [])
    ∷ map (λ s. s ∷ []) (
    setting (codes "name") text ∷ setting (codes "timeout_time") truth ∷ setting (codes "timeout_time") text ∷ setting (codes "expect_fail") (whole 1)
    ∷ setting (codes "expect_fail") constant.Absent ∷ setting (codes "expect_error") text ∷ setting (codes "expect_error") truth
    ∷ setting (codes "skip") (whole 1) ∷ setting (codes "skip") text ∷ [])
    ++ (setting (codes "timeout_time") (whole 1) ∷ setting (codes "timeout_unit") (whole 1) ∷ []) ∷ []))
    rule.BadOption 2

-- ---- options of a factory

abbrev pub add_zero : List ℕ → ModuleLine
add_zero o = add o (whole 0)

-- A factory wants a value of `x`, and may have one of `y`. Another factory of the function has options of its own. An option may not be given
-- twice, nor be the first parameter, nor none, nor come behind the tests, which are generated once and where no value is missing.
abbrev pub Factory_rows : Type 0
Factory_rows =
    Keeps (made (add_zero (codes "x") ∷ generate ∷ []))
    × Keeps (made (add_zero (codes "y") ∷ Factory (codes "tg") (codes "f") ∷ add_zero (codes "x") ∷ AddOption (codes "tg") (codes "x") [] ∷ generate
    ∷ GenerateTests (codes "tg") None None ∷ []))
    × Refuses_each (map (λ x. made (x ∷ [])) (add_zero (codes "z") ∷ add_zero (codes "dut") ∷ generate ∷ [])) rule.BadOption 5
    × Refuses_each (
    map (λ x. made (add_zero (codes "y") ∷ x ∷ [])) (
    generate ∷ add_zero (codes "y") ∷ AddOption (codes "tf") (codes "y") [] ∷ []))
    rule.BadOption 6
    × Refuses_each (map (λ x. made (add_zero (codes "x") ∷ generate ∷ x ∷ [])) (generate ∷ add_zero (codes "y") ∷ [])) rule.BadOption 7
    × Refuses (made (add_zero (codes "x") ∷ Factory (codes "tg") (codes "f") ∷ GenerateTests (codes "tg") None None ∷ [])) rule.BadOption 7

-- ---- how many tests there are

-- `import cocotb` and a test from line 8 on, behind a factory
abbrev pub test_behind : List ModuleItem → List ModuleItem
test_behind xs = xs ++ LineAt 8 (Import (codes "cocotb")) ∷ test_at 9 (Pass ∷ [])

-- The last line counts that is no docstring, or line 1. Functions that aren't decorated are no tests, and those of a factory are none by
-- themselves. A factory's line is enough, even without a case. The limit is for all tests so far.
abbrev pub Count_rows : Type 0
Count_rows =
    Refuses [] rule.NoTests 1 × Refuses (TextAt 1 ∷ TextAt 2 ∷ []) rule.NoTests 1 × Refuses (constant_k 1 ∷ constant_at 2 (codes "A") (whole 1) ∷ TextAt 3 ∷ []) rule.NoTests 2
    × Refuses (function 1 (codes "g") [] (Pass ∷ []) ∷ []) rule.NoTests 2
    × Refuses (FunctionAt 1 (codes "g") [] (Then (ClauseAt 2 (While one) (Then (DocstringAt 3) NoItem)) NoItem) ∷ []) rule.NoTests 2
    × Refuses (decorated_factory_lines (parameter (codes "dut") ∷ []) (make_factory ∷ [])) rule.NoTests 6
    × Keeps (factory 257 0)
    × Keeps (decorated_factory_lines (parameter (codes "dut") ∷ parameter (codes "x") ∷ parameter (codes "y") ∷ []) (make_factory ∷ values 256 256))
    × Keeps (test_behind (factory 257 255)) × Refuses (test_behind (factory 256 256)) rule.TooManyCases 10

-- ---- which line and which rule is the first

-- A line above counts before one below, whatever the rules; `NoTests` counts last. On one line `UnknownImport` is before `DuplicateName`,
-- `UnknownName` before `Misplaced`, though it stand behind it, `Misplaced` before `DuplicateName` and `BadOption`, and these before `TooManyCases`.
abbrev pub Order_rows : Type 0
Order_rows =
    Refuses (import_cocotb ∷ test_with 2 (setting (codes "skip") (whole 1) ∷ []) ++ LineAt 5 (Import (codes "os")) ∷ []) rule.BadOption 2
    × Refuses (constant_k 1 ∷ constant_k 2 ∷ []) rule.DuplicateName 2
    × Refuses (import_cocotb ∷ LineAt 2 (FromImport (codes "cocotb" ∷ []) (codes "cocotb" ∷ [])) ∷ []) rule.UnknownImport 2
    × Refuses (test (Return (Some (RightValue (Infix (operation.Binary binary.Add) (Name (codes "cocotb")) unknown))) ∷ [])) rule.UnknownName 4
    × Refuses (import_cocotb ∷ constant_k 2 ∷ constant_at 3 (codes "K") (named (codes "cocotb")) ∷ []) rule.Misplaced 3
    × Refuses (import_cocotb ∷ LineAt 2 (Test (setting (codes "skip") (whole 1) ∷ [])) ∷ []) rule.Misplaced 2
    × Refuses (factory 256 256 ++ LineAt 8 generate ∷ []) rule.BadOption 8
    × Refuses (factory 256 256 ++ LineAt 8 (Import (codes "cocotb")) ∷ LineAt 9 (Test []) ∷ function 10 (codes "tf") (parameter (codes "dut") ∷ []) (Pass ∷ []) ∷ [])
    rule.DuplicateName 10
