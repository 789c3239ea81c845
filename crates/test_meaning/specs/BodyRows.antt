-- A means of proof: worked bodies, by which the definition of what calls, names, clauses and whole functions stand for is tried. What is
-- expected was read from the rules of the language.
use Rattle.std.specs.Prelude.{◌≡◌, ℕ, Bool, true, false, List, [], ◌∷◌, ◌++◌, map, Some, None, codes}
use Rattle.py_syntax.specs.BlockTrees.{ModuleItem, FunctionAt, Block, NoItem, Then, DocstringAt, StatementAt, ClauseAt}
use Rattle.py_syntax.specs.ExpressionTrees as tree
use Rattle.py_syntax.specs.ExpressionTrees.{Tree, NoTree, NoPart, TextThen, FormattedThen, FormatString, Name, Constant, Bracketed, Attribute, Subscript, MethodCall, Unary, Infix}
use Rattle.py_syntax.specs.StatementTrees as syntax
use Rattle.py_syntax.specs.StatementTrees.{Argument, Header, If, Elif, Else, While, For, Try, Except, With, All, Kind}
use Rattle.py_syntax.specs.declared.constant.Const.TheVariants as constant
use Rattle.py_syntax.specs.declared.expression.BinOp.TheVariants as binary
use Rattle.py_syntax.specs.declared.expression.BoolOp.TheVariants as bool_operator
use Rattle.py_syntax.specs.declared.expression.Function.TheVariants as python
use Rattle.py_syntax.specs.declared.expression.Method.TheVariants as method
use Rattle.py_syntax.specs.declared.expression.Operation.TheVariants as operation
use Rattle.py_syntax.specs.declared.expression.UnOp.TheVariants as unary
use Rattle.py_syntax.specs.declared.fault_kind.FaultKind.TheVariants as kind
use Rattle.py_syntax.specs.declared.statement.LogLevel.TheVariants as level
use Rattle.test_meaning.specs.Body.BodyTrees as body
use Rattle.test_meaning.specs.Body.BodyTrees.{Operand}
use Rattle.test_meaning.specs.Body.Sound.{is_sound, is_sound_call}
use Rattle.test_meaning.specs.Bodies.{Inside, block_in, call_in, function_in, span_in, statement_in, tree_in}
use Rattle.test_meaning.specs.Check.{meaning}
use Rattle.test_meaning.specs.Library.{clock_start, library, functions}
use Rattle.test_meaning.specs.Rules.File.{file_of}
use Rattle.test_meaning.specs.Rules.Rows.{whole, named, parameter, defaulted, statements, constant_at, argument, given}

-- ---- a file with constants and functions

-- `K = 3`, `A = K`, `async def g(a, b=A, c=5):` and `async def h():`
abbrev pub items : List ModuleItem
items =
    constant_at 1 (codes "K") (whole 3) ∷ constant_at 2 (codes "A") (named (codes "K"))
    ∷ FunctionAt 3 (codes "g") (parameter (codes "a") ∷ defaulted (codes "b") (named (codes "A")) ∷ defaulted (codes "c") (whole 5) ∷ []) NoItem
    ∷ FunctionAt 5 (codes "h") [] NoItem ∷ []

-- in a function of it whose own names are `x` and `K`, or `x` alone
abbrev pub hidden : Inside
hidden = record { file = file_of items; locals = codes "x" ∷ codes "K" ∷ [] }

abbrev pub here : Inside
here = record { file = file_of items; locals = codes "x" ∷ [] }

abbrev pub number : ℕ → Tree
number n = Constant (whole n)

abbrev pub k : Tree
k = Name (codes "K")

abbrev pub x : Tree
x = Name (codes "x")

-- ---- names

-- each form of an expression, with this one in each place in which one stands
abbrev pub forms : Tree → List Tree
forms e =
    e ∷ Bracketed e ∷ Attribute e (codes "K") ∷ Subscript e x ∷ Subscript x e ∷ MethodCall e method.Done ∷ Unary unary.Not e
    ∷ Infix (operation.Bool bool_operator.Or) e x ∷ Infix (operation.Binary binary.Add) x e
    ∷ tree.Call python.Timer (tree.Then e (tree.Then e NoTree)) ∷ FormatString (TextThen (codes "K") (FormattedThen e (FormattedThen x NoPart))) ∷ []

-- A constant's value takes the place of its name, in each part of an expression, at the end of a chain too, but not where the name is the
-- function's own; and an attribute of that name stays. A name in a literal list is the constant's all the same.
abbrev pub Constant_rows : Type 0
Constant_rows =
    (map (tree_in here) (forms k) ≡ forms (number 3)) × (map (tree_in hidden) (forms k) ≡ forms k) × (tree_in here (Name (codes "A")) ≡ number 3)
    × (span_in hidden (syntax.Constants (named (codes "K") ∷ whole 1 ∷ [])) ≡ syntax.Constants (whole 3 ∷ whole 1 ∷ []))
    × (span_in here (syntax.StartStopStep k x k) ≡ syntax.StartStopStep (number 3) x (number 3))

-- ---- calls

abbrev pub for_parameter : ℕ → Tree → Operand
for_parameter i e = record { parameter = i; value = e }

abbrev pub calls_g : List Argument → syntax.StartedCall
calls_g xs = syntax.FunctionCall (codes "g") xs

abbrev pub starts_clock : List Argument → syntax.StartedCall
starts_clock xs = syntax.ClockStart k xs

-- `g(1)` has both defaults, `g(1, 2, 4)` none; in `g(c=K, a=x)` the operands keep the order in which they are evaluated, and the default stands
-- behind them. A function has its number, and `Clock.start` the one behind the file's; of its operands only those are there that are written.
abbrev pub Call_rows : Type 0
Call_rows =
    (call_in here (calls_g (argument (number 1) ∷ []))
    ≡ body.FunctionCall 0 (for_parameter 0 (number 1) ∷ for_parameter 1 (number 3) ∷ for_parameter 2 (number 5) ∷ []))
    × (call_in here (calls_g (argument (number 1) ∷ argument (number 2) ∷ argument (number 4) ∷ []))
    ≡ body.FunctionCall 0 (for_parameter 0 (number 1) ∷ for_parameter 1 (number 2) ∷ for_parameter 2 (number 4) ∷ []))
    × (call_in here (calls_g (given (codes "c") k ∷ given (codes "a") x ∷ []))
    ≡ body.FunctionCall 0 (for_parameter 2 (number 3) ∷ for_parameter 0 x ∷ for_parameter 1 (number 3) ∷ []))
    × (call_in here (syntax.FunctionCall (codes "h") []) ≡ body.FunctionCall 1 [])
    × (call_in here (starts_clock []) ≡ body.ClockStart 2 (number 3) [])
    × (call_in here (starts_clock (argument k ∷ argument x ∷ [])) ≡ body.ClockStart 2 (number 3) (for_parameter 0 (number 3) ∷ for_parameter 1 x ∷ []))
    × (call_in here (starts_clock (given (codes "start_high") x ∷ [])) ≡ body.ClockStart 2 (number 3) (for_parameter 1 x ∷ []))
    × (call_in here (starts_clock (given (codes "cycles") x ∷ [])) ≡ body.ClockStart 2 (number 3) (for_parameter 0 x ∷ []))
    × (call_in here (syntax.QueuePut x k) ≡ body.QueuePut 3 x (number 3)) × (call_in here (syntax.QueueGet k) ≡ body.QueueGet 4 (number 3))

-- a call that leaves out what has no default, or gives one parameter twice, is not sound, nor one of a function that isn't there
abbrev pub is_sound_here : body.Call → Bool
is_sound_here c = is_sound_call (functions (file_of items)) c

abbrev pub Sound_rows : Type 0
Sound_rows =
    (map is_sound_here (
    call_in here (calls_g (given (codes "c") k ∷ given (codes "a") x ∷ [])) ∷ call_in here (starts_clock (given (codes "start_high") x ∷ []))
    ∷ call_in here (calls_g []) ∷ call_in here (calls_g (argument x ∷ given (codes "a") x ∷ [])) ∷ call_in here (calls_g (argument x ∷ given (codes "d") x ∷ []))
    ∷ body.FunctionCall 3 [] ∷ body.ClockStart 1 x [] ∷ body.ClockStart 2 x (for_parameter 1 x ∷ for_parameter 1 x ∷ [])
    ∷ body.ClockStart 2 x (for_parameter 2 x ∷ []) ∷ call_in here (syntax.QueuePut x k) ∷ call_in here (syntax.QueueGet x) ∷ [])
    ≡ true ∷ true ∷ false ∷ false ∷ false ∷ false ∷ false ∷ false ∷ false ∷ true ∷ true ∷ [])
    × (is_sound (meaning (file_of items)) ≡ true)

-- ---- statements

abbrev pub call_h : syntax.StartedCall
call_h = syntax.FunctionCall (codes "h") []

abbrev pub h : body.Call
h = body.FunctionCall 1 []

-- each form of a statement
abbrev pub Statement_rows : Type 0
Statement_rows =
    (map (statement_in here) (
    syntax.Pass ∷ syntax.Break ∷ syntax.Continue ∷ syntax.Return None ∷ syntax.Return (Some (syntax.RightValue k)) ∷ syntax.Raise kind.ValueError (Some k)
    ∷ syntax.Assert k (Some k) ∷ syntax.Assign (codes "K") (syntax.RightStart call_h) ∷ syntax.Assign (codes "x") (syntax.RandomInt k k)
    ∷ syntax.Assign (codes "x") syntax.NewEvent ∷ syntax.Assign (codes "x") syntax.NewLock ∷ syntax.AugmentedAssign (codes "K") binary.Add k
    ∷ syntax.AssignValue k (syntax.RightAwait (syntax.AwaitedCall call_h)) ∷ syntax.SetImmediateValue k k ∷ syntax.Await (syntax.AwaitedValue k)
    ∷ syntax.Await (syntax.AwaitedStart call_h) ∷ syntax.Await (syntax.WithTimeout (syntax.TimedCall call_h) k (Some k))
    ∷ syntax.Await (syntax.WithTimeout (syntax.TimedValue k) k None) ∷ syntax.Log syntax.CocotbLog level.Info k (k ∷ x ∷ [])
    ∷ syntax.Log (syntax.HierarchyLog k) level.Error k [] ∷ syntax.StartSoon call_h ∷ syntax.Assign (codes "x") (syntax.NewQueue None)
    ∷ syntax.Assign (codes "x") (syntax.NewQueue (Some k)) ∷ syntax.Return (Some (syntax.GetNow k)) ∷ syntax.PutNow k x ∷ syntax.AssignAction k (syntax.Force k)
    ∷ syntax.AssignAction x syntax.Freeze ∷ syntax.SetImmediateAction k syntax.Release ∷ [])
    ≡ body.Pass ∷ body.Break ∷ body.Continue ∷ body.Return None ∷ body.Return (Some (body.RightValue (number 3))) ∷ body.Raise kind.ValueError (Some (number 3))
    ∷ body.Assert (number 3) (Some (number 3)) ∷ body.Assign (codes "K") (body.RightStart h) ∷ body.Assign (codes "x") (body.RandomInt (number 3) (number 3))
    ∷ body.Assign (codes "x") body.NewEvent ∷ body.Assign (codes "x") body.NewLock ∷ body.AugmentedAssign (codes "K") binary.Add (number 3)
    ∷ body.AssignValue (number 3) (body.RightAwait (body.AwaitedCall h)) ∷ body.SetImmediateValue (number 3) (number 3) ∷ body.Await (body.AwaitedValue (number 3))
    ∷ body.Await (body.AwaitedStart h) ∷ body.Await (body.WithTimeout (body.TimedCall h) (number 3) (Some (number 3)))
    ∷ body.Await (body.WithTimeout (body.TimedValue (number 3)) (number 3) None) ∷ body.Log body.CocotbLog level.Info (number 3) (number 3 ∷ x ∷ [])
    ∷ body.Log (body.HierarchyLog (number 3)) level.Error (number 3) [] ∷ body.StartSoon h ∷ body.Assign (codes "x") (body.NewQueue None)
    ∷ body.Assign (codes "x") (body.NewQueue (Some (number 3))) ∷ body.Return (Some (body.GetNow (number 3))) ∷ body.PutNow (number 3) x
    ∷ body.AssignAction (number 3) (body.Force (number 3)) ∷ body.AssignAction x body.Freeze ∷ body.SetImmediateAction (number 3) body.Release ∷ [])

-- ---- blocks

-- `return n`
abbrev pub returns : ℕ → Block
returns n = Then (StatementAt 1 (syntax.Return (Some (syntax.RightValue (number n))))) NoItem

abbrev pub returned : ℕ → body.Block
returned n = body.Then (body.Simple (body.Return (Some (body.RightValue (number n))))) body.NoItem

-- clauses behind one another, the n-th of which holds `return n`, and then `pass`
abbrev pub clauses : ℕ → List Header → Block
clauses n [] = Then (StatementAt 1 syntax.Pass) NoItem
clauses n (h ∷ hs) = Then (ClauseAt 1 h (returns n)) (clauses (Rattle.std.specs.Prelude.suc n) hs)

abbrev pub body_of : Block → body.Block
body_of b = (block_in here b).items

-- an item, and then `pass`
abbrev pub then_pass : body.Item → body.Block
then_pass i = body.Then i (body.Then (body.Simple body.Pass) body.NoItem)

abbrev pub alone : body.Item → body.Block
alone i = body.Then i body.NoItem

-- `if`; `if`, `else`; `if`, `elif`, `elif`, `else`; two `if`s, of which the second has the `else`
abbrev pub If_rows : Type 0
If_rows =
    (body_of (clauses 1 (If k ∷ [])) ≡ then_pass (body.If (number 3) (returned 1) body.NoItem))
    × (body_of (clauses 1 (If k ∷ Else ∷ [])) ≡ then_pass (body.If (number 3) (returned 1) (returned 2)))
    × (body_of (clauses 1 (If k ∷ Elif x ∷ Elif k ∷ Else ∷ [])) ≡ then_pass (body.If (number 3) (returned 1)
    (alone (body.If x (returned 2) (alone (body.If (number 3) (returned 3) (returned 4)))))))
    × (body_of (clauses 1 (If k ∷ If x ∷ Else ∷ [])) ≡ body.Then (body.If (number 3) (returned 1) body.NoItem) (then_pass (body.If x (returned 2) (returned 3))))

-- `try` with one `except` and with two, and one behind another; loops and `async with`; blocks in blocks. A docstring is nothing, also between.
abbrev pub Block_rows : Type 0
Block_rows =
    (body_of (clauses 1 (Try ∷ Except All ∷ [])) ≡ then_pass (body.Try (returned 1) (body.Catch All (returned 2) body.NoHandler)))
    × (body_of (clauses 1 (Try ∷ Except (Kind kind.ValueError) ∷ Except All ∷ [])) ≡ then_pass (body.Try (returned 1)
    (body.Catch (Kind kind.ValueError) (returned 2) (body.Catch All (returned 3) body.NoHandler))))
    × (body_of (clauses 1 (Try ∷ Except All ∷ Try ∷ Except All ∷ [])) ≡ body.Then (body.Try (returned 1) (body.Catch All (returned 2) body.NoHandler))
    (then_pass (body.Try (returned 3) (body.Catch All (returned 4) body.NoHandler))))
    × (body_of (clauses 1 (While k ∷ For (codes "x") (syntax.Stop k) ∷ With k ∷ [])) ≡ body.Then (body.While (number 3) (returned 1))
    (body.Then (body.For (codes "x") (syntax.Stop (number 3)) (returned 2)) (then_pass (body.With (number 3) (returned 3)))))
    × (body_of (Then (DocstringAt 1) (Then (ClauseAt 2 (While k) (Then (ClauseAt 3 (If k) (returns 1)) (Then (ClauseAt 4 Else (Then (DocstringAt 5) NoItem)) NoItem)))
    (Then (DocstringAt 6) NoItem))) ≡ alone (body.While (number 3) (alone (body.If (number 3) (returned 1) body.NoItem))))

-- What no text has: an `else`, an `elif` and an `except` whose statement isn't there are left out, also behind a docstring, and a `try` may catch
-- nothing. Of two `else`s the first counts.
abbrev pub Stray_rows : Type 0
Stray_rows =
    (map body_of (clauses 1 (Else ∷ []) ∷ clauses 1 (Elif k ∷ Else ∷ []) ∷ clauses 1 (Except All ∷ []) ∷ [])
    ≡ (alone (body.Simple body.Pass) ∷ alone (body.Simple body.Pass) ∷ alone (body.Simple body.Pass) ∷ []))
    × (body_of (Then (ClauseAt 1 (If k) (returns 1)) (Then (DocstringAt 2) (clauses 3 (Else ∷ [])))) ≡ then_pass (body.If (number 3) (returned 1) body.NoItem))
    × (body_of (clauses 1 (Try ∷ [])) ≡ then_pass (body.Try (returned 1) body.NoHandler))
    × (body_of (clauses 1 (If k ∷ Else ∷ Else ∷ [])) ≡ then_pass (body.If (number 3) (returned 1) (returned 2)))

-- ---- functions

-- `async def f(dut, n=K):` with `K = 1`, `for i in range(n):` with `g = K`, and `K += A`
abbrev pub block : Block
block =
    Then (StatementAt 8 (syntax.Assign (codes "K") (syntax.RightValue (number 1)))) (
    Then (ClauseAt 9 (For (codes "i") (syntax.Stop (Name (codes "n")))) (Then (StatementAt 10 (syntax.Assign (codes "g") (syntax.RightValue k))) NoItem)) (
    Then (StatementAt 11 (syntax.AugmentedAssign (codes "K") binary.Add (Name (codes "A")))) NoItem))

abbrev pub empty_function : List (List ℕ) → body.Function
empty_function ps = record { parameters = ps; others = []; body = body.NoItem }

-- The functions stand by number, with those of the library behind them. A function has its parameters and the names that it assigns, each once, and in
-- all of it these hide the constants of the module.
abbrev pub Function_rows : Type 0
Function_rows =
    functions (file_of (items ++ FunctionAt 7 (codes "f") (parameter (codes "dut") ∷ defaulted (codes "n") (named (codes "K")) ∷ []) block ∷ []))
    ≡ empty_function (codes "a" ∷ codes "b" ∷ codes "c" ∷ []) ∷ empty_function []
    ∷ record {
      parameters = codes "dut" ∷ codes "n" ∷ [];
      others = codes "K" ∷ codes "i" ∷ codes "g" ∷ [];
      body = body.Then (body.Simple (body.Assign (codes "K") (body.RightValue (number 1)))) (
          body.Then (body.For (codes "i") (syntax.Stop (Name (codes "n"))) (alone (body.Simple (body.Assign (codes "g") (body.RightValue k))))) (
          alone (body.Simple (body.AugmentedAssign (codes "K") binary.Add (number 3)))));
    } ∷ library

-- ---- the text of `Clock.start`

-- `await Timer(half, "step")`
abbrev pub half_step : syntax.Statement
half_step = syntax.Await (syntax.AwaitedValue (tree.Call python.Timer (tree.Then (Name (codes "half")) (tree.Then (Constant (constant.Text (codes "step"))) NoTree))))

-- `s.value = ..` and `n = ..`
abbrev pub writes : Tree → syntax.Statement
writes e = syntax.AssignValue (Name (codes "s")) (syntax.RightValue e)

abbrev pub counts : Tree → syntax.Statement
counts e = syntax.Assign (codes "n") (syntax.RightValue e)

abbrev pub clock_text : Block
clock_text =
    Then (StatementAt 2 (counts (number 0))) (
    Then (ClauseAt 3 (While (Infix (operation.Bool bool_operator.Or) (Infix (operation.Binary binary.Is) (Name (codes "cycles")) (Constant constant.Absent))
    (Infix (operation.Binary binary.Less) (Name (codes "n")) (Name (codes "cycles"))))) (statements 4 (
    writes (Name (codes "first")) ∷ half_step ∷ writes (Infix (operation.Binary binary.Subtract) (number 1) (Name (codes "first"))) ∷ half_step
    ∷ counts (Infix (operation.Binary binary.Add) (Name (codes "n")) (number 1)) ∷ []))) NoItem)

-- it is what this text of a function stands for, in a file of its own
abbrev pub Clock_row : Type 0
Clock_row =
    function_in (file_of []) (map parameter (codes "s" ∷ codes "half" ∷ codes "first" ∷ codes "cycles" ∷ [])) clock_text ≡ clock_start
