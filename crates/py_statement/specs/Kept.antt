-- A means of proof: what is kept of statements and headers while a line is read, and the greatest height of their expressions, for the
-- proofs of Python's parser.
use Rattle.std.specs.Prelude.{ℕ, List}
use Rattle.py_syntax.specs.ExpressionTrees.{Tree}
use Rattle.py_syntax.specs.StatementTrees.{Logger, CocotbLog, HierarchyLog, Statement, Pass, Break, Continue, Return, Raise, Assert, Assign, AugmentedAssign, AssignValue, SetImmediateValue, Await, Act, Log, StartSoon, PutNow, AssignAction, SetImmediateAction, Span, Stop, StartStop, StartStopStep, Constants, Header, If, Elif, Else, While, For, Try, Except, With, BodyLine, Simple, Heads}
use Rattle.py_syntax.specs.declared.statement.Action.{Action}
use Rattle.py_syntax.specs.declared.statement.LogLevel.{LogLevel}
use Rattle.py_statement.specs.Call.Kept.{of_one, of_two, kept, kept_optional, kept_list, kept_started, kept_awaited, kept_right, kept_write_action}

abbrev pub kept_logger : ℕ → Logger → Logger × ℕ
kept_logger limit CocotbLog = (CocotbLog, 0)
kept_logger limit (HierarchyLog e) = of_one HierarchyLog (kept limit e)

abbrev pub logged_as : LogLevel → Logger → Tree × List Tree → Statement
logged_as l g es = Log g l es.0 es.1

abbrev pub kept_values : ℕ → Tree → List Tree → (Tree × List Tree) × ℕ
kept_values limit e es = of_two (λ x xs. (x, xs)) (kept limit e) (kept_list (kept limit) es)

abbrev pub acting : Action → Tree → Statement
acting a e = Act e a

abbrev pub kept_statement : ℕ → Statement → Statement × ℕ
kept_statement limit Pass = (Pass, 0)
kept_statement limit Break = (Break, 0)
kept_statement limit Continue = (Continue, 0)
kept_statement limit (Return s) = of_one Return (kept_optional (kept_right limit) s)
kept_statement limit (Raise k e) = of_one (Raise k) (kept_optional (kept limit) e)
kept_statement limit (Assert c e) = of_two Assert (kept limit c) (kept_optional (kept limit) e)
kept_statement limit (Assign n s) = of_one (Assign n) (kept_right limit s)
kept_statement limit (AugmentedAssign n op e) = of_one (AugmentedAssign n op) (kept limit e)
kept_statement limit (AssignValue e s) = of_two AssignValue (kept limit e) (kept_right limit s)
kept_statement limit (SetImmediateValue e v) = of_two SetImmediateValue (kept limit e) (kept limit v)
kept_statement limit (Await a) = of_one Await (kept_awaited limit a)
kept_statement limit (Act e a) = of_one (acting a) (kept limit e)
kept_statement limit (Log g l e es) = of_two (logged_as l) (kept_logger limit g) (kept_values limit e es)
kept_statement limit (StartSoon f) = of_one StartSoon (kept_started limit f)
kept_statement limit (PutNow e x) = of_two PutNow (kept limit e) (kept limit x)
kept_statement limit (AssignAction e w) = of_two AssignAction (kept limit e) (kept_write_action limit w)
kept_statement limit (SetImmediateAction e w) = of_two SetImmediateAction (kept limit e) (kept_write_action limit w)

abbrev pub kept_span : ℕ → Span → Span × ℕ
kept_span limit (Stop e) = of_one Stop (kept limit e)
kept_span limit (StartStop e f) = of_two StartStop (kept limit e) (kept limit f)
kept_span limit (StartStopStep e f g) = of_two (λ x (y : Tree × Tree). StartStopStep x y.0 y.1) (kept limit e) (of_two (λ y z. (y, z)) (kept limit f) (kept limit g))
kept_span limit (Constants cs) = (Constants cs, 0)

abbrev pub kept_header : ℕ → Header → Header × ℕ
kept_header limit (If e) = of_one If (kept limit e)
kept_header limit (Elif e) = of_one Elif (kept limit e)
kept_header limit Else = (Else, 0)
kept_header limit (While e) = of_one While (kept limit e)
kept_header limit (For n s) = of_one (For n) (kept_span limit s)
kept_header limit Try = (Try, 0)
kept_header limit (Except c) = (Except c, 0)
kept_header limit (With e) = of_one With (kept limit e)

abbrev pub kept_line : ℕ → BodyLine → BodyLine × ℕ
kept_line limit (Simple s) = of_one Simple (kept_statement limit s)
kept_line limit (Heads h) = of_one Heads (kept_header limit h)
