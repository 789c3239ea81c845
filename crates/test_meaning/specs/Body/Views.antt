-- A means of proof: the trees that the code's types stand for, for the proofs of all that takes a tests file.
use Rattle.std.specs.Prelude.{List, [], ◌∷◌, map, option_map}
use Rattle.py_syntax.specs.ExpressionTrees.{view}
use Rattle.py_syntax.specs.StatementTrees.{view_caught, view_span}
use Rattle.py_syntax.specs.declared.constant.Const.{Const}
use Rattle.test_meaning.specs.Body.BodyTrees.{Operand, Call, FunctionCall, ClockStart, QueuePut, QueueGet, Timed, TimedValue, TimedCall, Awaited, AwaitedValue, AwaitedCall, AwaitedStart, WithTimeout, AwaitedRoom, AwaitedItem, RightSide, RightValue, RightAwait, RightStart, NewEvent, NewLock, RandomInt, NewQueue, GetNow, WriteAction, Force, Freeze, Release, Logger, CocotbLog, HierarchyLog, Statement, Pass, Break, Continue, Return, Raise, Assert, Assign, AugmentedAssign, AssignValue, SetImmediateValue, Await, Act, Log, StartSoon, PutNow, AssignAction, SetImmediateAction, Item, Simple, If, While, For, Try, With, Block, NoItem, Then, Handlers, NoHandler, Catch, Function, Limit, Case, TestFile}
use Rattle.test_meaning.specs.declared.body.call.Operand as operand
use Rattle.test_meaning.specs.declared.body.call.Call as call
use Rattle.test_meaning.specs.declared.body.call.Call.TheVariants as call_value
use Rattle.test_meaning.specs.declared.body.call.Timed as timed
use Rattle.test_meaning.specs.declared.body.call.Timed.TheVariants as timed_value
use Rattle.test_meaning.specs.declared.body.call.Awaited as awaited
use Rattle.test_meaning.specs.declared.body.call.Awaited.TheVariants as awaited_value
use Rattle.test_meaning.specs.declared.body.call.RightSide as right
use Rattle.test_meaning.specs.declared.body.call.RightSide.TheVariants as right_side
use Rattle.test_meaning.specs.declared.body.call.WriteAction as write_action
use Rattle.test_meaning.specs.declared.body.call.WriteAction.TheVariants as action_value
use Rattle.test_meaning.specs.declared.body.statement.Logger as logger
use Rattle.test_meaning.specs.declared.body.statement.Logger.TheVariants as logger_value
use Rattle.test_meaning.specs.declared.body.statement.Statement as statement
use Rattle.test_meaning.specs.declared.body.statement.Statement.TheVariants as statement_value
use Rattle.test_meaning.specs.declared.body.item.Item as code
use Rattle.test_meaning.specs.declared.body.item.Item.{Row_of-Item, end_of-Item, more_of-Item, Row_of-Branch, end_of-Branch, more_of-Branch, Row_of-Handler, end_of-Handler, more_of-Handler}
use Rattle.test_meaning.specs.declared.body.item.Item.TheVariants as item
use Rattle.test_meaning.specs.declared.body.item.Branch as code_branch
use Rattle.test_meaning.specs.declared.body.item.Branch.TheVariants as branch
use Rattle.test_meaning.specs.declared.body.item.Handler as code_handler
use Rattle.test_meaning.specs.declared.body.item.Handler.TheVariants as handler
use Rattle.test_meaning.specs.declared.body.file.Function as function
use Rattle.test_meaning.specs.declared.body.file.TestCase as test
use Rattle.test_meaning.specs.declared.body.file.TestFile as file

abbrev pub view_operand : operand.Operand → Operand
view_operand o = record { parameter = o.parameter; value = view o.value }

abbrev pub view_call : call.Call → Call
view_call (call_value.Function n os) = FunctionCall n (map view_operand os.items)
view_call (call_value.Clock n e os) = ClockStart n (view e) (map view_operand os.items)
view_call (call_value.Put n e x) = QueuePut n (view e) (view x)
view_call (call_value.Get n e) = QueueGet n (view e)

abbrev pub view_timed : timed.Timed → Timed
view_timed (timed_value.Value e) = TimedValue (view e)
view_timed (timed_value.Call c) = TimedCall (view_call c)

abbrev pub view_awaited : awaited.Awaited → Awaited
view_awaited (awaited_value.Value e) = AwaitedValue (view e)
view_awaited (awaited_value.Call c) = AwaitedCall (view_call c)
view_awaited (awaited_value.Start c) = AwaitedStart (view_call c)
view_awaited (awaited_value.WithTimeout x e u) = WithTimeout (view_timed x) (view e) (option_map view u)
view_awaited (awaited_value.Room e) = AwaitedRoom (view e)
view_awaited (awaited_value.Items e) = AwaitedItem (view e)

abbrev pub view_right : right.RightSide → RightSide
view_right (right_side.Value e) = RightValue (view e)
view_right (right_side.Await a) = RightAwait (view_awaited a)
view_right (right_side.StartSoon c) = RightStart (view_call c)
view_right right_side.Event = NewEvent
view_right right_side.Lock = NewLock
view_right (right_side.RandomInt a b) = RandomInt (view a) (view b)
view_right (right_side.Queue e) = NewQueue (option_map view e)
view_right (right_side.GetNow e) = GetNow (view e)

abbrev pub view_write_action : write_action.WriteAction → WriteAction
view_write_action (action_value.Force e) = Force (view e)
view_write_action action_value.Freeze = Freeze
view_write_action action_value.Release = Release

abbrev pub view_logger : logger.Logger → Logger
view_logger logger_value.Cocotb = CocotbLog
view_logger (logger_value.Hierarchy e) = HierarchyLog (view e)

abbrev pub view_statement : statement.Statement → Statement
view_statement statement_value.Pass = Pass
view_statement statement_value.Break = Break
view_statement statement_value.Continue = Continue
view_statement (statement_value.Return s) = Return (option_map view_right s)
view_statement (statement_value.Raise k e) = Raise k (option_map view e)
view_statement (statement_value.Assert c e) = Assert (view c) (option_map view e)
view_statement (statement_value.Assign n s) = Assign n (view_right s)
view_statement (statement_value.AugmentedAssign n o e) = AugmentedAssign n o (view e)
view_statement (statement_value.AssignValue e s) = AssignValue (view e) (view_right s)
view_statement (statement_value.SetImmediateValue e v) = SetImmediateValue (view e) (view v)
view_statement (statement_value.Await a) = Await (view_awaited a)
view_statement (statement_value.Act e a) = Act (view e) a
view_statement (statement_value.Log g l e es) = Log (view_logger g) l (view e) (map view es.items)
view_statement (statement_value.StartSoon c) = StartSoon (view_call c)
view_statement (statement_value.PutNow e x) = PutNow (view e) (view x)
view_statement (statement_value.AssignAction e w) = AssignAction (view e) (view_write_action w)
view_statement (statement_value.SetImmediateAction e w) = SetImmediateAction (view e) (view_write_action w)

abbrev mutual
  pub view_item : code.Item → Item
  view_item (item.Statement s) = Simple (view_statement s.value)
  view_item (item.If' e shape all elif_shape elifs other_shape other) = If (view e) (view_row all) (view_branch_row elifs (view_row other))
  view_item (item.While' e shape all) = While (view e) (view_row all)
  view_item (item.For' n span shape all) = For n (view_span span) (view_row all)
  view_item (item.Try' shape all other_shape handlers) = Try (view_row all) (view_handler_row handlers)
  view_item (item.With' e shape all) = With (view e) (view_row all)

  pub view_row : {m : _} → Row_of-Item m → Block
  view_row end_of-Item = NoItem
  view_row (more_of-Item x rest) = Then (view_item x) (view_row rest)

  -- an `elif`, whose `else` has this block, is an `if`
  pub view_branch : code_branch.Branch → Block → Item
  view_branch (branch.Elif' e shape all) other = If (view e) (view_row all) other

  -- what stands in the `else` of an `if` before these `elif`, the last of which has this block in its `else`: each `if` alone in that of the one before
  pub view_branch_row : {m : _} → Row_of-Branch m → Block → Block
  view_branch_row end_of-Branch other = other
  view_branch_row (more_of-Branch b rest) other = Then (view_branch b (view_branch_row rest other)) NoItem

  -- an `except` before others
  pub with_handler : code_handler.Handler → Handlers → Handlers
  with_handler (handler.Catch' c shape all) hs = Catch (view_caught c) (view_row all) hs

  pub view_handler_row : {m : _} → Row_of-Handler m → Handlers
  view_handler_row end_of-Handler = NoHandler
  view_handler_row (more_of-Handler h rest) = with_handler h (view_handler_row rest)

abbrev pub block_of : List code.Item → Block
block_of [] = NoItem
block_of (x ∷ xs) = Then (view_item x) (block_of xs)

abbrev pub else_of : List code_branch.Branch → Block → Block
else_of [] other = other
else_of (b ∷ bs) other = Then (view_branch b (else_of bs other)) NoItem

abbrev pub handlers_of : List code_handler.Handler → Handlers
handlers_of [] = NoHandler
handlers_of (h ∷ hs) = with_handler h (handlers_of hs)

abbrev pub view_function : function.Function → Function
view_function f = record { parameters = f.parameters; others = f.others; body = block_of f.body.items }

abbrev pub view_limit : Const × Const → Limit
view_limit l = record { number = l.0; unit = l.1 }

abbrev pub view_case : test.TestCase → Case
view_case c = record {
  name = c.name;
  function = c.func;
  arguments = c.args;
  time = option_map view_limit c.time;
  expect_fail = c.expect_fail;
  expect_error = c.expect_error;
  skip = c.skip;
}

abbrev pub view_file : file.TestFile → TestFile
view_file f = record { functions = map view_function f.functions; cases = map view_case f.cases }
