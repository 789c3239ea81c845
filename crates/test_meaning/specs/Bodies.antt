-- What the functions of an accepted tests file stand for (the language reference, 6.3.4, 7 and 8): values in place of module constants,
-- numbers in place of the names of called functions, an operand for each parameter, and compound statements in place of their clauses.
use Rattle.std.specs.Prelude.{ℕ, suc, ◌+◌, true, List, [], ◌∷◌, ◌++◌, length, map, Option, Some, None, option_map, codes, if◌then◌else◌}
use Rattle.py_syntax.specs.BlockTrees.{BlockItem, DocstringAt, StatementAt, ClauseAt}
use Rattle.py_syntax.specs.BlockTrees as blocks
use Rattle.py_syntax.specs.ExpressionTrees as tree
use Rattle.py_syntax.specs.ExpressionTrees.{Tree, Trees, Parts, NoTree, NoPart, TextThen, FormattedThen, Bracketed, Attribute, Subscript, MethodCall, Unary, Infix, FormatString}
use Rattle.py_syntax.specs.StatementTrees as syntax
use Rattle.py_syntax.specs.declared.constant.Const.{Const}
use Rattle.py_syntax.specs.declared.constant.Const.TheVariants as constant
use Rattle.py_syntax.specs.declared.module.Parameter.{Parameter}
use Rattle.test_meaning.specs.Body.BodyTrees as body
use Rattle.test_meaning.specs.Body.BodyTrees.{Operand, Call, Item, Block, Handlers, Function, Simple, If, While, For, Try, With, NoItem, NoHandler, Catch}
use Rattle.test_meaning.specs.Rules.File.{File, Fixed, Definition, fixed_of, value_in, function}
use Rattle.test_meaning.specs.Rules.Names.{Name, is_among}
use Rattle.test_meaning.specs.Rules.Rules.{place_of, parameter_places, is_in}
use Rattle.test_meaning.specs.Rules.Uses.{parameter_names, other_names, own_names}

-- where a body stands: the file, and the names that are the function's own
pub record Inside : Type 0 where
  pub file : File
  pub locals : List Name

-- ---- expressions

abbrev pub fixed_tree : Name → Option Fixed → Tree
fixed_tree n None = tree.Name n
fixed_tree n (Some k) = tree.Constant k.value

-- a name of the function's own stays; another one is that of a constant, whose value takes its place
abbrev pub name_in : Inside → Name → Tree
name_in s n = if is_among n s.locals then tree.Name n else fixed_tree n (fixed_of s.file.constants n)

abbrev mutual
  pub tree_in : Inside → Tree → Tree
  tree_in s (tree.Constant c) = tree.Constant c
  tree_in s (FormatString ps) = FormatString (parts_in s ps)
  tree_in s (tree.Name n) = name_in s n
  tree_in s (Bracketed e) = Bracketed (tree_in s e)
  tree_in s (Attribute e n) = Attribute (tree_in s e) n
  tree_in s (Subscript e i) = Subscript (tree_in s e) (tree_in s i)
  tree_in s (tree.Call f es) = tree.Call f (row_in s es)
  tree_in s (MethodCall e m) = MethodCall (tree_in s e) m
  tree_in s (Unary o e) = Unary o (tree_in s e)
  tree_in s (Infix o l r) = Infix o (tree_in s l) (tree_in s r)

  pub row_in : Inside → Trees → Trees
  row_in s NoTree = NoTree
  row_in s (tree.Then e es) = tree.Then (tree_in s e) (row_in s es)

  pub parts_in : Inside → Parts → Parts
  parts_in s NoPart = NoPart
  parts_in s (TextThen t ps) = TextThen t (parts_in s ps)
  parts_in s (FormattedThen e ps) = FormattedThen (tree_in s e) (parts_in s ps)

-- ---- calls (6.3.4)

-- the operands that are written, in that order, from the one with this number on, each with its parameter
abbrev pub given_operands : Inside → List Parameter → ℕ → List syntax.Argument → List Operand
given_operands s ps k [] = []
given_operands s ps k (a ∷ rest) = record { parameter = place_of ps k a.name; value = tree_in s a.value } ∷ given_operands s ps (suc k) rest

abbrev pub default_operand : File → List ℕ → ℕ → Option Const → List Operand
default_operand f given i None = []
default_operand f given i (Some c) = if is_in i given then [] else record { parameter = i; value = tree.Constant (value_in f.constants c) } ∷ []

-- the defaults of those parameters, from the one with this number on, that no operand is given for
abbrev pub default_operands : File → List ℕ → ℕ → List Parameter → List Operand
default_operands f given i [] = []
default_operands f given i (p ∷ ps) = default_operand f given i p.default ++ default_operands f given (suc i) ps

-- the parameters that arguments are for
abbrev pub given_places : List Parameter → List syntax.Argument → List ℕ
given_places ps xs = parameter_places ps 0 (map (λ a. a.name) xs)

-- the operands of a call of a function with these parameters
abbrev pub operands_in : Inside → List Parameter → List syntax.Argument → List Operand
operands_in s ps xs = given_operands s ps 0 xs ++ default_operands s.file (given_places ps xs) 0 ps

-- a call of what is no function stands for nothing; no accepted file has one
abbrev pub called : Inside → List syntax.Argument → Option Definition → Call
called s xs None = body.FunctionCall 0 []
called s xs (Some d) = body.FunctionCall d.number (operands_in s d.parameters xs)

-- the parameters of a clock's start
abbrev pub clock_parameters : List Parameter
clock_parameters =
    record { name = codes "cycles"; default = Some constant.Absent } ∷ record { name = codes "start_high"; default = Some (constant.Truth true) } ∷ []

-- `Clock.start` has the number behind those of the file's functions, `Queue.put` and `Queue.get` the next ones
abbrev pub clock_number : File → ℕ
clock_number f = length f.functions

abbrev pub put_number : File → ℕ
put_number f = length f.functions + 1

abbrev pub get_number : File → ℕ
get_number f = length f.functions + 2

abbrev pub call_in : Inside → syntax.StartedCall → Call
call_in s (syntax.FunctionCall n xs) = called s xs (function s.file n)
call_in s (syntax.ClockStart e xs) = body.ClockStart (clock_number s.file) (tree_in s e) (given_operands s clock_parameters 0 xs)
call_in s (syntax.QueuePut e x) = body.QueuePut (put_number s.file) (tree_in s e) (tree_in s x)
call_in s (syntax.QueueGet e) = body.QueueGet (get_number s.file) (tree_in s e)

-- ---- statements

abbrev pub timed_in : Inside → syntax.Timed → body.Timed
timed_in s (syntax.TimedValue e) = body.TimedValue (tree_in s e)
timed_in s (syntax.TimedCall c) = body.TimedCall (call_in s c)

abbrev pub awaited_in : Inside → syntax.Awaited → body.Awaited
awaited_in s (syntax.AwaitedValue e) = body.AwaitedValue (tree_in s e)
awaited_in s (syntax.AwaitedCall c) = body.AwaitedCall (call_in s c)
awaited_in s (syntax.AwaitedStart c) = body.AwaitedStart (call_in s c)
awaited_in s (syntax.WithTimeout x e u) = body.WithTimeout (timed_in s x) (tree_in s e) (option_map (tree_in s) u)

abbrev pub right_in : Inside → syntax.RightSide → body.RightSide
right_in s (syntax.RightValue e) = body.RightValue (tree_in s e)
right_in s (syntax.RightAwait a) = body.RightAwait (awaited_in s a)
right_in s (syntax.RightStart c) = body.RightStart (call_in s c)
right_in s syntax.NewEvent = body.NewEvent
right_in s syntax.NewLock = body.NewLock
right_in s (syntax.RandomInt a b) = body.RandomInt (tree_in s a) (tree_in s b)
right_in s (syntax.NewQueue e) = body.NewQueue (option_map (tree_in s) e)
right_in s (syntax.GetNow e) = body.GetNow (tree_in s e)

abbrev pub write_action_in : Inside → syntax.WriteAction → body.WriteAction
write_action_in s (syntax.Force e) = body.Force (tree_in s e)
write_action_in s syntax.Freeze = body.Freeze
write_action_in s syntax.Release = body.Release

abbrev pub logger_in : Inside → syntax.Logger → body.Logger
logger_in s syntax.CocotbLog = body.CocotbLog
logger_in s (syntax.HierarchyLog e) = body.HierarchyLog (tree_in s e)

abbrev pub statement_in : Inside → syntax.Statement → body.Statement
statement_in s syntax.Pass = body.Pass
statement_in s syntax.Break = body.Break
statement_in s syntax.Continue = body.Continue
statement_in s (syntax.Return r) = body.Return (option_map (right_in s) r)
statement_in s (syntax.Raise k e) = body.Raise k (option_map (tree_in s) e)
statement_in s (syntax.Assert c e) = body.Assert (tree_in s c) (option_map (tree_in s) e)
statement_in s (syntax.Assign n r) = body.Assign n (right_in s r)
statement_in s (syntax.AugmentedAssign n o e) = body.AugmentedAssign n o (tree_in s e)
statement_in s (syntax.AssignValue e r) = body.AssignValue (tree_in s e) (right_in s r)
statement_in s (syntax.SetImmediateValue e v) = body.SetImmediateValue (tree_in s e) (tree_in s v)
statement_in s (syntax.Await a) = body.Await (awaited_in s a)
statement_in s (syntax.Act e a) = body.Act (tree_in s e) a
statement_in s (syntax.Log g l e es) = body.Log (logger_in s g) l (tree_in s e) (map (tree_in s) es)
statement_in s (syntax.StartSoon c) = body.StartSoon (call_in s c)
statement_in s (syntax.PutNow e x) = body.PutNow (tree_in s e) (tree_in s x)
statement_in s (syntax.AssignAction e w) = body.AssignAction (tree_in s e) (write_action_in s w)
statement_in s (syntax.SetImmediateAction e w) = body.SetImmediateAction (tree_in s e) (write_action_in s w)

-- a name in a literal list is that of a constant, whatever names are the function's own
abbrev pub span_in : Inside → syntax.Span → syntax.Span
span_in s (syntax.Stop e) = syntax.Stop (tree_in s e)
span_in s (syntax.StartStop e f) = syntax.StartStop (tree_in s e) (tree_in s f)
span_in s (syntax.StartStopStep e f g) = syntax.StartStopStep (tree_in s e) (tree_in s f) (tree_in s g)
span_in s (syntax.Constants cs) = syntax.Constants (map (value_in s.file.constants) cs)

-- ---- blocks (8)

-- What stands in a block from some place on: the items, and in front of them, where the block goes on there with clauses of the statement
-- above, its `else` and its handlers.
pub record Tail : Type 0 where
  pub items : Block
  pub other : Block
  pub handlers : Handlers

-- these items, and no clause in front of them
abbrev pub behind : Block → Tail
behind b = record { items = b; other = NoItem; handlers = NoHandler }

-- an item before those
abbrev pub before : Item → Tail → Tail
before x rest = behind (body.Then x rest.items)

-- a clause before what stands behind its block
abbrev pub clause_in : Inside → syntax.Header → Block → Tail → Tail
clause_in s (syntax.If e) b rest = before (If (tree_in s e) b rest.other) rest
clause_in s (syntax.Elif e) b rest = record { items = rest.items; other = body.Then (If (tree_in s e) b rest.other) NoItem; handlers = NoHandler }
clause_in s syntax.Else b rest = record { items = rest.items; other = b; handlers = NoHandler }
clause_in s (syntax.While e) b rest = before (While (tree_in s e) b) rest
clause_in s (syntax.For n span) b rest = before (For n (span_in s span) b) rest
clause_in s syntax.Try b rest = before (Try b rest.handlers) rest
clause_in s (syntax.Except c) b rest = record { items = rest.items; other = NoItem; handlers = Catch c b rest.handlers }
clause_in s (syntax.With e) b rest = before (With (tree_in s e) b) rest

abbrev mutual
  pub block_in : Inside → blocks.Block → Tail
  block_in s blocks.NoItem = behind NoItem
  block_in s (blocks.Then x xs) = item_in s x (block_in s xs)

  pub item_in : Inside → BlockItem → Tail → Tail
  item_in s (DocstringAt l) rest = behind rest.items
  item_in s (StatementAt l t) rest = before (Simple (statement_in s t)) rest
  item_in s (ClauseAt l h b) rest = clause_in s h (block_in s b).items rest

-- ---- functions

-- where the body of a function with these parameters stands
abbrev pub inside : File → List Parameter → blocks.Block → Inside
inside f ps b = record { file = f; locals = own_names ps b }

abbrev pub function_in : File → List Parameter → blocks.Block → Function
function_in f ps b = record { parameters = parameter_names ps; others = other_names ps b; body = (block_in (inside f ps b) b).items }
