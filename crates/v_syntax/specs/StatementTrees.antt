-- Statements as trees, without where they lie in memory (IEEE 1364-2005, annex A.6). The names are those of the code's types.
use Rattle.std.specs.Prelude.{ℕ, List, [], ◌∷◌, Option, map}
use Rattle.four_value.specs.declared.Digit.{Digit}
use Rattle.v_syntax.specs.declared.word.SystemTask.{SystemTask}
use Rattle.v_syntax.specs.declared.statement.Identifier.{Identifier}
use Rattle.v_syntax.specs.declared.statement.AssignmentKind.{AssignmentKind}
use Rattle.v_syntax.specs.declared.statement.CaseKind.{CaseKind}
use Rattle.v_syntax.specs.declared.statement.VariableAssignment.{VariableAssignment}
use Rattle.v_syntax.specs.declared.statement.ForHeader.{ForHeader}
use Rattle.v_syntax.specs.declared.statement.TaskArgument.{TaskArgument}
use Rattle.v_syntax.specs.declared.statement.TaskArgument.TheVariants as code_argument
use Rattle.v_syntax.specs.declared.statement.Statement as code
use Rattle.v_syntax.specs.declared.statement.Statement.{Row_of-CaseItem, end_of-CaseItem, more_of-CaseItem, Row_of-Statement, end_of-Statement, more_of-Statement}
use Rattle.v_syntax.specs.declared.statement.CaseItem as code_item
use Rattle.v_syntax.specs.ExpressionTrees.{Tree, TargetTree}
use Rattle.v_syntax.specs.ExpressionTrees as expression

pub data ArgumentTree : Type 0 where
  Value : Tree → ArgumentTree
  Text : List ℕ → ArgumentTree

-- name = value
pub data VariableTree : Type 0 where
  Variable : Identifier → Tree → VariableTree

-- the parts of a for's header in their order
pub data HeaderTree : Type 0 where
  Header : VariableTree → Tree → VariableTree → HeaderTree

mutual
  pub data StatementTree : Type 0 where
    Null : StatementTree
    Block : Option (List ℕ) → StatementTrees → StatementTree
    Assignment : AssignmentKind → TargetTree → Tree → StatementTree
    If : Tree → StatementTree → StatementTree
    IfElse : Tree → StatementTree → StatementTree → StatementTree
    Case : CaseKind → Tree → CaseTrees → StatementTree
    -- the number of the `for`, its header, its body
    For : ℕ → HeaderTree → StatementTree → StatementTree
    TaskEnable : SystemTask → List ArgumentTree → StatementTree
    -- the number of the number's token, and its digits
    Delay : ℕ → List Digit → StatementTree

  pub data StatementTrees : Type 0 where
    no_statement : StatementTrees
    more_statements : StatementTree → StatementTrees → StatementTrees

  pub data CaseTree : Type 0 where
    Match : List Tree → StatementTree → CaseTree
    Default : StatementTree → CaseTree

  pub data CaseTrees : Type 0 where
    no_case : CaseTrees
    more_cases : CaseTree → CaseTrees → CaseTrees

-- the statements of a list, the cases of a list
abbrev pub statement_trees : List StatementTree → StatementTrees
statement_trees [] = no_statement
statement_trees (s ∷ ss) = more_statements s (statement_trees ss)

abbrev pub case_trees : List CaseTree → CaseTrees
case_trees [] = no_case
case_trees (c ∷ cs) = more_cases c (case_trees cs)

-- ---- the trees of the code's values

abbrev pub view_argument : TaskArgument → ArgumentTree
view_argument (code_argument.Expression e) = Value (expression.view e)
view_argument (code_argument.Text t) = Text t

abbrev pub view_variable : VariableAssignment → VariableTree
view_variable a = Variable a.name (expression.view a.value)

abbrev pub view_header : ForHeader → HeaderTree
view_header h = Header (view_variable h.initial) (expression.view h.condition) (view_variable h.step)

abbrev mutual
  pub view : code.Statement → StatementTree
  view code.Null = Null
  view (code.Block' label shape all) = Block label (view_row all)
  view (code.Assignment kind t e) = Assignment kind (expression.view_target t) (expression.view e)
  view (code.If' c p s) = If (expression.view c) (view s)
  view (code.IfElse' c p s q r) = IfElse (expression.view c) (view s) (view r)
  view (code.Case' kind e shape all) = Case kind (expression.view e) (view_case_row all)
  view (code.For' at header p s) = For at (view_header header) (view s)
  view (code.TaskEnable task arguments) = TaskEnable task (map view_argument arguments.items)
  view (code.Delay at ds) = Delay at ds

  pub view_row : {m : _} → Row_of-Statement m → StatementTrees
  view_row end_of-Statement = no_statement
  view_row (more_of-Statement s rest) = more_statements (view s) (view_row rest)

  pub view_case : code_item.CaseItem → CaseTree
  view_case (code_item.Match labels s) = Match (map expression.view labels.items) (view s)
  view_case (code_item.Default s) = Default (view s)

  pub view_case_row : {m : _} → Row_of-CaseItem m → CaseTrees
  view_case_row end_of-CaseItem = no_case
  view_case_row (more_of-CaseItem c rest) = more_cases (view_case c) (view_case_row rest)
