-- What is kept of a line is the line with its height, where that is within the limit.
use Rattle.std.proofs.Common.{max, List, ℕ}
use Rattle.py_syntax.specs.ExpressionTrees.{Tree, height}
use Rattle.py_syntax.specs.StatementTrees.{Logger, CocotbLog, HierarchyLog, Statement, Pass, Break, Continue, Return, Raise, Assert, Assign, AugmentedAssign, AssignValue, SetImmediateValue, Await, Act, Log, StartSoon, PutNow, AssignAction, SetImmediateAction, Span, Stop, StartStop, StartStopStep, Constants, Header, If, Elif, Else, While, For, Try, Except, With, BodyLine, Simple, Heads, greatest, right_height, logger_height, statement_height, span_height, header_height, line_height}
use Rattle.py_statement.specs.Call.Kept.{kept, kept_right}
use Rattle.py_statement.proofs.CallLemmas.HeightLaws.{Fits, kept_fits, none_fits, one_fits, two_fits, optional_fits, list_fits, started_fits, awaited_fits, right_fits, write_action_fits}
use Rattle.py_statement.specs.Kept.{kept_logger, logged_as, kept_values, acting, kept_statement, kept_span, kept_header, kept_line}

logger_fits : (limit : ℕ) (g : Logger) → Fits limit g (logger_height g) (kept_logger limit g)
logger_fits limit CocotbLog = none_fits limit CocotbLog
logger_fits limit (HierarchyLog e) = one_fits limit HierarchyLog e _ _ (kept_fits limit e)

values_fit : (limit : ℕ) (e : Tree) (es : List Tree) → Fits limit (e, es) (max (height e) (greatest height es)) (kept_values limit e es)
values_fit limit e es = two_fits limit (λ x xs. (x, xs)) e es _ _ _ _ (kept_fits limit e) (list_fits limit height (kept limit) (kept_fits limit) es)

statement_fits : (limit : ℕ) (s : Statement) → Fits limit s (statement_height s) (kept_statement limit s)
statement_fits limit Pass = none_fits limit Pass
statement_fits limit Break = none_fits limit Break
statement_fits limit Continue = none_fits limit Continue
statement_fits limit (Return s) = one_fits limit Return s _ _ (optional_fits limit right_height (kept_right limit) (right_fits limit) s)
statement_fits limit (Raise k e) = one_fits limit (Raise k) e _ _ (optional_fits limit height (kept limit) (kept_fits limit) e)
statement_fits limit (Assert c e) = two_fits limit Assert c e _ _ _ _ (kept_fits limit c) (optional_fits limit height (kept limit) (kept_fits limit) e)
statement_fits limit (Assign n s) = one_fits limit (Assign n) s _ _ (right_fits limit s)
statement_fits limit (AugmentedAssign n op e) = one_fits limit (AugmentedAssign n op) e _ _ (kept_fits limit e)
statement_fits limit (AssignValue e s) = two_fits limit AssignValue e s _ _ _ _ (kept_fits limit e) (right_fits limit s)
statement_fits limit (SetImmediateValue e v) = two_fits limit SetImmediateValue e v _ _ _ _ (kept_fits limit e) (kept_fits limit v)
statement_fits limit (Await a) = one_fits limit Await a _ _ (awaited_fits limit a)
statement_fits limit (Act e a) = one_fits limit (acting a) e _ _ (kept_fits limit e)
statement_fits limit (Log g l e es) = two_fits limit (logged_as l) g (e, es) _ _ _ _ (logger_fits limit g) (values_fit limit e es)
statement_fits limit (StartSoon f) = one_fits limit StartSoon f _ _ (started_fits limit f)
statement_fits limit (PutNow e x) = two_fits limit PutNow e x _ _ _ _ (kept_fits limit e) (kept_fits limit x)
statement_fits limit (AssignAction e w) = two_fits limit AssignAction e w _ _ _ _ (kept_fits limit e) (write_action_fits limit w)
statement_fits limit (SetImmediateAction e w) = two_fits limit SetImmediateAction e w _ _ _ _ (kept_fits limit e) (write_action_fits limit w)

span_fits : (limit : ℕ) (s : Span) → Fits limit s (span_height s) (kept_span limit s)
span_fits limit (Stop e) = one_fits limit Stop e _ _ (kept_fits limit e)
span_fits limit (StartStop e f) = two_fits limit StartStop e f _ _ _ _ (kept_fits limit e) (kept_fits limit f)
span_fits limit (StartStopStep e f g) =
    two_fits limit (λ x (y : Tree × Tree). StartStopStep x y.0 y.1) e (f, g) _ _ _ _ (kept_fits limit e) (two_fits limit (λ y z. (y, z)) f g _ _ _ _ (kept_fits limit f) (kept_fits limit g))
span_fits limit (Constants cs) = none_fits limit (Constants cs)

header_fits : (limit : ℕ) (h : Header) → Fits limit h (header_height h) (kept_header limit h)
header_fits limit (If e) = one_fits limit If e _ _ (kept_fits limit e)
header_fits limit (Elif e) = one_fits limit Elif e _ _ (kept_fits limit e)
header_fits limit Else = none_fits limit Else
header_fits limit (While e) = one_fits limit While e _ _ (kept_fits limit e)
header_fits limit (For n s) = one_fits limit (For n) s _ _ (span_fits limit s)
header_fits limit Try = none_fits limit Try
header_fits limit (Except c) = none_fits limit (Except c)
header_fits limit (With e) = one_fits limit With e _ _ (kept_fits limit e)

pub line_fits : (limit : ℕ) (l : BodyLine) → Fits limit l (line_height l) (kept_line limit l)
line_fits limit (Simple s) = one_fits limit Simple s _ _ (statement_fits limit s)
line_fits limit (Heads h) = one_fits limit Heads h _ _ (header_fits limit h)
