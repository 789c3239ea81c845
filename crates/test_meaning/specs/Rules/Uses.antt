-- What the lines of a module use, and where (the language reference, 4.2.2): each rule on names asks about these alone.
use Rattle.std.specs.Prelude.{ℕ, Bool, true, false, ◌||◌, ◌&&◌, List, [], ◌∷◌, ◌++◌, map, Option, Some, None, is_some, codes, if◌then◌else◌}
use Rattle.std.specs.List.{flat_map}
use Rattle.std.specs.Str.{bytes_eq}
use Rattle.py_syntax.specs.BlockTrees.{BlockItem, DocstringAt, StatementAt, ClauseAt, Block, NoItem, Then, ModuleItem, TextAt, LineAt, FunctionAt}
use Rattle.py_syntax.specs.ExpressionTables.{function_name}
use Rattle.py_syntax.specs.ExpressionTrees as tree
use Rattle.py_syntax.specs.ExpressionTrees.{Tree, Trees, Parts, NoTree, NoPart, TextThen, FormattedThen, Bracketed, Attribute, Subscript, Call, MethodCall, Unary, Infix, FormatString}
use Rattle.py_syntax.specs.ModuleTrees as module_line
use Rattle.py_syntax.specs.ModuleTrees.{ModuleLine, FromImport, Import, Test, Factory, AddOption, GenerateTests}
use Rattle.py_syntax.specs.StatementTables.{fault_name, fault_of}
use Rattle.py_syntax.specs.StatementTrees.{Argument, StartedCall, FunctionCall, ClockStart, QueuePut, QueueGet, Timed, TimedValue, TimedCall, Awaited, AwaitedValue, AwaitedCall, AwaitedStart, WithTimeout, RightSide, RightValue, RightAwait, RightStart, NewEvent, NewLock, RandomInt, NewQueue, GetNow, WriteAction, Force, Freeze, Release, Logger, CocotbLog, HierarchyLog, Statement, Pass, Break, Continue, Return, Raise, Assert, Assign, AugmentedAssign, AssignValue, SetImmediateValue, Await, Act, Log, StartSoon, PutNow, AssignAction, SetImmediateAction, Caught, All, Kind, Kinds, KindAs, Span, Stop, StartStop, StartStopStep, Constants, Header, If, Elif, Else, While, For, Try, Except, With}
use Rattle.py_syntax.specs.declared.constant.Const.{Const}
use Rattle.py_syntax.specs.declared.constant.Const.TheVariants as constant
use Rattle.py_syntax.specs.declared.fault_kind.FaultKind.{FaultKind}
use Rattle.py_syntax.specs.declared.module.Parameter.{Parameter}
use Rattle.py_syntax.specs.declared.module.Setting.{Setting}
use Rattle.test_meaning.specs.Rules.File.{File, Place, file_of, places, line_of}
use Rattle.test_meaning.specs.Rules.Names.{Name, others_than}

pub data Use : Type 0 where
  -- a name as a value
  Reads : Name → Use
  -- a name by which a form is known, as `Timer` or `cocotb`
  Needs : Name → Use
  -- a call of a function of the file: its name, and of each argument the name by which it is given, if it is
  Calls : Name → List (Option Name) → Use
  -- a constant
  Takes : Const → Use
  -- `break` or `continue` outside of a loop
  Leaves : Use
  -- a factory for a function
  Makes : Name → Use
  -- an option or the tests of a factory
  Extends : Name → Use

-- what stands around a use: what the items above define, and the names that are its function's own
pub record Around : Type 0 where
  pub above : File
  pub locals : List Name

-- A line: its number, what it uses and what stands around that; and of an item's own line, the item in its place.
pub record FileLine : Type 0 where
  pub number : ℕ
  pub around : Around
  pub uses : List Use
  pub place : Option Place

abbrev pub if_given : {A : Type 0} → (A → List Use) → Option A → List Use
if_given f None = []
if_given f (Some a) = f a

-- ---- expressions

abbrev mutual
  pub tree_uses : Tree → List Use
  tree_uses (tree.Constant c) = []
  tree_uses (FormatString ps) = parts_uses ps
  tree_uses (tree.Name n) = Reads n ∷ []
  tree_uses (Bracketed e) = tree_uses e
  tree_uses (Attribute e n) = tree_uses e
  tree_uses (Subscript e i) = tree_uses e ++ tree_uses i
  tree_uses (Call f es) = Needs (function_name f) ∷ row_uses es
  tree_uses (MethodCall e m) = tree_uses e
  tree_uses (Unary o e) = tree_uses e
  tree_uses (Infix o l r) = tree_uses l ++ tree_uses r

  pub row_uses : Trees → List Use
  row_uses NoTree = []
  row_uses (tree.Then e es) = tree_uses e ++ row_uses es

  pub parts_uses : Parts → List Use
  parts_uses NoPart = []
  parts_uses (TextThen t ps) = parts_uses ps
  parts_uses (FormattedThen e ps) = tree_uses e ++ parts_uses ps

-- ---- statements

abbrev pub argument_uses : Argument → List Use
argument_uses a = tree_uses a.value

abbrev pub call_uses : StartedCall → List Use
call_uses (FunctionCall n xs) = Calls n (map (λ a. a.name) xs) ∷ flat_map argument_uses xs
call_uses (ClockStart e xs) = tree_uses e ++ flat_map argument_uses xs
call_uses (QueuePut e x) = tree_uses e ++ tree_uses x
call_uses (QueueGet e) = tree_uses e

abbrev pub timed_uses : Timed → List Use
timed_uses (TimedValue e) = tree_uses e
timed_uses (TimedCall c) = call_uses c

abbrev pub cocotb : Use
cocotb = Needs (codes "cocotb")

abbrev pub awaited_uses : Awaited → List Use
awaited_uses (AwaitedValue e) = tree_uses e
awaited_uses (AwaitedCall c) = call_uses c
awaited_uses (AwaitedStart c) = cocotb ∷ call_uses c
awaited_uses (WithTimeout x e u) = Needs (codes "with_timeout") ∷ timed_uses x ++ tree_uses e ++ if_given tree_uses u

abbrev pub right_uses : RightSide → List Use
right_uses (RightValue e) = tree_uses e
right_uses (RightAwait a) = awaited_uses a
right_uses (RightStart c) = cocotb ∷ call_uses c
right_uses NewEvent = Needs (codes "Event") ∷ []
right_uses NewLock = Needs (codes "Lock") ∷ []
right_uses (RandomInt a b) = Needs (codes "random") ∷ tree_uses a ++ tree_uses b
right_uses (NewQueue e) = Needs (codes "Queue") ∷ if_given tree_uses e
right_uses (GetNow e) = tree_uses e

abbrev pub write_action_uses : WriteAction → List Use
write_action_uses (Force e) = Needs (codes "Force") ∷ tree_uses e
write_action_uses Freeze = Needs (codes "Freeze") ∷ []
write_action_uses Release = Needs (codes "Release") ∷ []

abbrev pub kind_use : FaultKind → Use
kind_use k = Needs (fault_name k)

abbrev pub logger_uses : Logger → List Use
logger_uses CocotbLog = cocotb ∷ []
logger_uses (HierarchyLog e) = tree_uses e

-- those of a statement that stands in a loop, or doesn't
abbrev pub statement_uses : Bool → Statement → List Use
statement_uses looped Pass = []
statement_uses looped Break = if looped then [] else Leaves ∷ []
statement_uses looped Continue = if looped then [] else Leaves ∷ []
statement_uses looped (Return s) = if_given right_uses s
statement_uses looped (Raise k e) = kind_use k ∷ if_given tree_uses e
statement_uses looped (Assert c e) = tree_uses c ++ if_given tree_uses e
statement_uses looped (Assign n s) = right_uses s
statement_uses looped (AugmentedAssign n o e) = tree_uses e
statement_uses looped (AssignValue e s) = tree_uses e ++ right_uses s
statement_uses looped (SetImmediateValue e v) = tree_uses e ++ tree_uses v
statement_uses looped (Await a) = awaited_uses a
statement_uses looped (Act e a) = tree_uses e
statement_uses looped (Log g l e es) = logger_uses g ++ tree_uses e ++ flat_map tree_uses es
statement_uses looped (StartSoon c) = cocotb ∷ call_uses c
statement_uses looped (PutNow e x) = tree_uses e ++ tree_uses x
statement_uses looped (AssignAction e w) = tree_uses e ++ write_action_uses w
statement_uses looped (SetImmediateAction e w) = tree_uses e ++ write_action_uses w

abbrev pub caught_uses : Caught → List Use
caught_uses All = []
caught_uses (Kind k) = kind_use k ∷ []
caught_uses (Kinds ks) = map kind_use ks
caught_uses (KindAs k n) = kind_use k ∷ []

abbrev pub span_uses : Span → List Use
span_uses (Stop e) = tree_uses e
span_uses (StartStop e f) = tree_uses e ++ tree_uses f
span_uses (StartStopStep e f g) = tree_uses e ++ tree_uses f ++ tree_uses g
span_uses (Constants cs) = map Takes cs

abbrev pub header_uses : Header → List Use
header_uses (If e) = tree_uses e
header_uses (Elif e) = tree_uses e
header_uses Else = []
header_uses (While e) = tree_uses e
header_uses (For n s) = span_uses s
header_uses Try = []
header_uses (Except c) = caught_uses c
header_uses (With e) = tree_uses e

-- ---- blocks

abbrev pub is_loop : Header → Bool
is_loop (While e) = true
is_loop (For n s) = true
is_loop _ = false

abbrev pub body_line : ℕ → Around → List Use → FileLine
body_line l a us = record { number = l; around = a; uses = us; place = None }

abbrev mutual
  pub block_lines : Around → Bool → Block → List FileLine
  block_lines a looped NoItem = []
  block_lines a looped (Then x xs) = item_lines a looped x ++ block_lines a looped xs

  pub item_lines : Around → Bool → BlockItem → List FileLine
  item_lines a looped (DocstringAt l) = []
  item_lines a looped (StatementAt l s) = body_line l a (statement_uses looped s) ∷ []
  item_lines a looped (ClauseAt l h b) = body_line l a (header_uses h) ∷ block_lines a (looped || is_loop h) b

-- ---- names that a function assigns

abbrev pub named_by : Header → List Name
named_by (For n s) = n ∷ []
named_by (Except (KindAs k n)) = n ∷ []
named_by _ = []

abbrev pub assigned_by : Statement → List Name
assigned_by (Assign n s) = n ∷ []
assigned_by (AugmentedAssign n o e) = n ∷ []
assigned_by _ = []

abbrev mutual
  pub assigned_in : Block → List Name
  assigned_in NoItem = []
  assigned_in (Then x xs) = assigned_at x ++ assigned_in xs

  pub assigned_at : BlockItem → List Name
  assigned_at (DocstringAt l) = []
  assigned_at (StatementAt l s) = assigned_by s
  assigned_at (ClauseAt l h b) = named_by h ++ assigned_in b

abbrev pub parameter_names : List Parameter → List Name
parameter_names ps = map (λ p. p.name) ps

-- the names that the block assigns, beside the parameters, each once in the order of its first assignment
abbrev pub other_names : List Parameter → Block → List Name
other_names ps b = others_than (parameter_names ps) (assigned_in b)

abbrev pub own_names : List Parameter → Block → List Name
own_names ps b = parameter_names ps ++ other_names ps b

-- ---- the lines of a module

abbrev pub default_uses : Parameter → List Use
default_uses p = if_given (λ c. Takes c ∷ []) p.default

-- a name of a fault kind
abbrev pub is_kind : Const → Bool
is_kind (constant.Named n) = is_some (fault_of n)
is_kind _ = false

-- `expect_error` with a fault kind
abbrev pub expects_kind : Setting → Bool
expects_kind s = bytes_eq s.name (codes "expect_error") && is_kind s.value

abbrev pub needed : Const → Use
needed (constant.Named n) = Needs n
needed c = Takes c

abbrev pub setting_use : Setting → Use
setting_use s = if expects_kind s then needed s.value else Takes s.value

abbrev pub line_uses : ModuleLine → List Use
line_uses (Import n) = []
line_uses (FromImport ms ns) = []
line_uses (module_line.Constant n c) = Takes c ∷ []
line_uses (Test ss) = cocotb ∷ map setting_use ss
line_uses (Factory n f) = Needs (codes "TestFactory") ∷ Makes f ∷ []
line_uses (AddOption n o cs) = Extends n ∷ map Takes cs
line_uses (GenerateTests n p q) = Extends n ∷ []
line_uses (module_line.Function f ps) = []

abbrev pub with_names : File → List Name → Around
with_names above ns = record { above = above; locals = ns }

-- what an item's own line uses
abbrev pub own_uses : ModuleItem → List Use
own_uses (TextAt l) = []
own_uses (LineAt l x) = line_uses x
own_uses (FunctionAt l f ps b) = flat_map default_uses ps

-- the lines of a function's block
abbrev pub inner_lines : File → ModuleItem → List FileLine
inner_lines above (FunctionAt l f ps b) = block_lines (with_names above (own_names ps b)) false b
inner_lines above _ = []

abbrev pub lines_at : Place → List FileLine
lines_at p =
    let above = file_of p.above in
    record { number = line_of p.item; around = with_names above []; uses = own_uses p.item; place = Some p } ∷ inner_lines above p.item

-- all lines, in order
abbrev pub file_lines : File → List FileLine
file_lines f = flat_map lines_at (places f.items)
