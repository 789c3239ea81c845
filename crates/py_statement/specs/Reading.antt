-- A means of proof: how the lines of a function's body are read, as functions on lists of tokens, for the proofs of Python's parser. Where
-- they give None no such form stands there.
use Rattle.std.specs.Prelude.{ℕ, ◌+◌, ◌==◌, Bool, true, false, ◌&&◌, List, [], ◌∷◌, ◌++◌, Option, Some, None, codes, if◌then◌else◌}
use Rattle.std.specs.Str.{bytes_eq}
use Rattle.py_syntax.specs.ExpressionTrees.{Tree, Name}
use Rattle.py_syntax.specs.StatementTables.{fault_of}
use Rattle.py_syntax.specs.StatementTrees.{Logger, CocotbLog, HierarchyLog, Statement, Pass, Break, Continue, Return, Raise, Assert, Assign, AugmentedAssign, AssignValue, SetImmediateValue, Await, StartSoon, PutNow, AssignAction, SetImmediateAction, Caught, All, Kind, Kinds, KindAs, Span, Stop, StartStop, StartStopStep, Constants, Header, If, Elif, Else, While, For, Try, Except, With, BodyLine, Simple, Heads}
use Rattle.py_syntax.specs.StatementForms.{can_log}
use Rattle.py_syntax.specs.declared.expression.BinOp.{BinOp}
use Rattle.py_syntax.specs.declared.fault_kind.FaultKind.{FaultKind}
use Rattle.py_syntax.specs.declared.keyword.Keyword.{Keyword}
use Rattle.py_syntax.specs.declared.keyword.Keyword.TheVariants as keyword
use Rattle.py_syntax.specs.declared.statement.Action.{Action}
use Rattle.py_syntax.specs.declared.statement.LogLevel.{LogLevel}
use Rattle.py_syntax.specs.declared.token.Token.{Token}
use Rattle.py_expression.specs.Shown.{Shown}
use Rattle.py_expression.specs.Attributes.{split_of}
use Rattle.py_expression.specs.Phrase.Marks.{end_of, after_open, after_close, after_open_square, after_comma, after_assign, name_at}
use Rattle.py_expression.specs.Reading.{primary_of}
use Rattle.py_expression.specs.Phrase.Readers.{constants_in}
use Rattle.py_statement.specs.Call.Kept.{lowered, of_one, of_two}
use Rattle.py_statement.specs.Call.Chosen.{also, or_else, made, ended}
use Rattle.py_statement.specs.Call.Words.{after_call}
use Rattle.py_statement.specs.Call.Reading.{value_of, whole_value_of, values_of, only_value_of, closed_start_of, awaited_of, right_of, whole_write_action_of, closed_write_action_of}
use Rattle.py_statement.specs.Kept.{acting, logged_as}
use Rattle.py_statement.specs.Words.{called_of, keyword_at, augmenting_at, after_in, after_as, after_with, colon_of, kind_at}
use Rattle.py_statement.specs.declared.method.Called.{Called}
use Rattle.py_statement.specs.declared.method.Called.TheVariants as called

-- ---- lists of a known length

abbrev pub first_of : {A : Type 0} → List A → Option (A × List A)
first_of [] = None
first_of (e ∷ es) = Some (e, es)

abbrev pub range_of : List Tree → Option Span
range_of (e ∷ []) = Some (Stop e)
range_of (e ∷ f ∷ []) = Some (StartStop e f)
range_of (e ∷ f ∷ g ∷ []) = Some (StartStopStep e f g)
range_of _ = None

-- how many `%s` there are, behind so many; the Bool tells whether a `%` stands before these bytes
unfoldable pub places_behind : Bool → ℕ → List ℕ → Option ℕ
places_behind false n [] = Some n
places_behind true n [] = None
places_behind false n (b ∷ bytes) = if b == 37 then places_behind true n bytes else places_behind false n bytes
places_behind true n (b ∷ bytes) = if b == 115 then places_behind false (n + 1) bytes else None

-- ---- statements that begin with a word

unfoldable pub only : Statement → List Token → Option (Statement × ℕ)
only s ts = ended (s, 0) ts

unfoldable pub return_of : ℕ → List Token → Option (Statement × ℕ)
return_of limit [] = Some (Return None, 0)
return_of limit (t ∷ ts) = made (of_one (λ s. Return (Some s))) (right_of limit (t ∷ ts))

-- one expression in brackets, at the end of the line
unfoldable pub one_value_of : ℕ → List Token → Option (Tree × ℕ)
one_value_of limit ts = also (only_value_of limit ts) (λ x. ended x.0 x.1)

abbrev pub raised_by : ℕ → List Token → Option (List Token) → Option (Option Tree × ℕ)
raised_by limit ts (Some us) = made (of_one (λ e. Some e)) (one_value_of limit us)
raised_by limit ts None = ended (None, 0) ts

unfoldable pub raised_of : ℕ → List Token → Option (Option Tree × ℕ)
raised_of limit ts = raised_by limit ts (after_open ts)

unfoldable pub raise_of : ℕ → List Token → Option (Statement × ℕ)
raise_of limit ts = also (kind_at ts) (λ x. made (of_one (Raise x.0)) (raised_of limit x.1))

abbrev pub message_by : ℕ → List Token → Option (List Token) → Option (Option Tree × ℕ)
message_by limit ts (Some us) = made (of_one (λ e. Some e)) (whole_value_of limit us)
message_by limit ts None = ended (None, 0) ts

unfoldable pub message_of : ℕ → List Token → Option (Option Tree × ℕ)
message_of limit ts = message_by limit ts (after_comma ts)

unfoldable pub assert_of : ℕ → List Token → Option (Statement × ℕ)
assert_of limit ts = also (value_of limit ts) (λ x. made (of_two Assert x.0) (message_of limit x.1))

unfoldable pub await_of : ℕ → List Token → Option (Statement × ℕ)
await_of limit ts = made (of_one Await) (awaited_of limit ts)

-- ---- statements that begin with a primary

abbrev pub is_word : List ℕ → Tree → Bool
is_word word (Name n) = bytes_eq n word
is_word word _ = false

-- behind `signal.value =`
unfoldable pub assigned_to_of : ℕ → Tree × ℕ → List Token → Option (Statement × ℕ)
assigned_to_of limit e ts = or_else (made (of_two AssignAction e) (whole_write_action_of limit ts)) (made (of_two AssignValue e) (right_of limit ts))

-- a new value of what stands before the `=`
unfoldable pub assigned_value_of : ℕ → Tree → ℕ → List Token → Option (Statement × ℕ)
assigned_value_of limit t h ts =
    also (split_of t) (λ x. if bytes_eq x.1 (codes "value") then assigned_to_of limit (lowered limit 1 x.0 h) ts else None)

abbrev pub assigned_name_of : ℕ → List ℕ → List Token → Option (Statement × ℕ)
assigned_name_of limit n ts = made (of_one (Assign n)) (right_of limit ts)

unfoldable pub assigned_of : ℕ → Tree → ℕ → List Token → Option (Statement × ℕ)
assigned_of limit (Name n) h ts = assigned_name_of limit n ts
assigned_of limit t h ts = assigned_value_of limit t h ts

abbrev pub augmented_name_of : ℕ → List ℕ → BinOp → List Token → Option (Statement × ℕ)
augmented_name_of limit n op ts = made (of_one (AugmentedAssign n op)) (whole_value_of limit ts)

unfoldable pub augmented_of : ℕ → Tree → BinOp → List Token → Option (Statement × ℕ)
augmented_of limit (Name n) op ts = augmented_name_of limit n op ts
augmented_of limit t op ts = None

abbrev pub logger_by : ℕ → Tree → List ℕ → ℕ → Option (Logger × ℕ)
logger_by limit e n h =
    if bytes_eq n (codes "_log") then Some (of_one HierarchyLog (lowered limit 2 e h))
    else (if bytes_eq n (codes "log") && is_word (codes "cocotb") e then Some (CocotbLog, 0) else None)

-- `cocotb.log` or `e._log`, where an attribute of it has the height h
unfoldable pub logger_of : ℕ → Tree → ℕ → Option (Logger × ℕ)
logger_of limit t h = also (split_of t) (λ x. logger_by limit x.0 x.1 h)

unfoldable pub logged_by : Logger × ℕ → LogLevel → (List Tree × ℕ) × List Token → Option (Statement × ℕ)
logged_by g l x = also (first_of x.0.0)
    (λ e. if can_log e.0 e.1 then ended (of_two (logged_as l) g (e, x.0.1)) x.1 else None)

unfoldable pub log_of : ℕ → Tree → ℕ → LogLevel → List Token → Option (Statement × ℕ)
log_of limit t h l ts = also (logger_of limit t h) (λ g. also (values_of limit ts) (logged_by g l))

unfoldable pub act_of : ℕ → Tree → ℕ → Action → List Token → Option (Statement × ℕ)
act_of limit t h a ts = made (λ _. of_one (acting a) (lowered limit 1 t h)) (also (after_close ts) end_of)

unfoldable pub set_immediate_of : ℕ → Tree × ℕ → List Token → Option (Statement × ℕ)
set_immediate_of limit e ts =
    or_else (made (of_two SetImmediateAction e) (closed_write_action_of limit ts)) (made (of_two SetImmediateValue e) (one_value_of limit ts))

unfoldable pub put_now_of : ℕ → Tree × ℕ → List Token → Option (Statement × ℕ)
put_now_of limit e ts = made (of_two PutNow e) (one_value_of limit ts)

unfoldable pub start_soon_of : ℕ → Tree → List Token → Option (Statement × ℕ)
start_soon_of limit t ts = if is_word (codes "cocotb") t then made (of_one StartSoon) (closed_start_of limit ts) else None

abbrev pub method_by : ℕ → Called → Tree → ℕ → List Token → Option (Statement × ℕ)
method_by limit (called.Act a) t h ts = act_of limit t h a ts
method_by limit (called.Log l) t h ts = log_of limit t h l ts
method_by limit called.SetImmediateValue t h ts = set_immediate_of limit (lowered limit 1 t h) ts
method_by limit called.PutNow t h ts = put_now_of limit (lowered limit 1 t h) ts
method_by limit called.StartSoon t h ts = start_soon_of limit t ts

-- behind `t(`
unfoldable pub called_statement_of : ℕ → Tree → ℕ → List Token → Option (Statement × ℕ)
called_statement_of limit t h ts = also (split_of t) (λ x. also (called_of x.1) (λ m. method_by limit m x.0 h ts))

abbrev pub behind_by : ℕ → Shown → Option (List Token) → Option (List Token) → Option (BinOp × List Token) → Option (Statement × ℕ)
behind_by limit v (Some us) _ _ = assigned_of limit v.tree v.height us
behind_by limit v None (Some us) _ = called_statement_of limit v.tree v.height us
behind_by limit v None None (Some x) = augmented_of limit v.tree x.0 x.1
behind_by limit v None None None = None

unfoldable pub behind_of : ℕ → Shown × List Token → Option (Statement × ℕ)
behind_of limit x = behind_by limit x.0 (after_assign x.1) (after_open x.1) (augmenting_at x.1)

unfoldable pub plain_of : ℕ → List Token → Option (Statement × ℕ)
plain_of limit ts = also (primary_of limit ts) (behind_of limit)

-- ---- headers

-- an expression and `:`
unfoldable pub test_of : ℕ → List Token → Option (Tree × ℕ)
test_of limit ts = also (value_of limit ts) (λ x. made (λ _. x.0) (colon_of x.1))

unfoldable pub range_span_of : ℕ → List Token → Option (Span × ℕ)
range_span_of limit ts = also (values_of limit ts) (λ x. also (range_of x.0.0) (λ s. made (λ _. (s, x.0.1)) (colon_of x.1)))

unfoldable pub constants_span_of : List Token → Option (Span × ℕ)
constants_span_of ts = also (constants_in ts) (λ x. made (λ _. (Constants x.0, 0)) (colon_of x.1))

abbrev pub span_by : ℕ → Option (List Token) → Option (List Token) → Option (Span × ℕ)
span_by limit (Some us) _ = range_span_of limit us
span_by limit None (Some us) = constants_span_of us
span_by limit None None = None

unfoldable pub span_of : ℕ → List Token → Option (Span × ℕ)
span_of limit ts = span_by limit (after_call (codes "range") ts) (after_open_square ts)

unfoldable pub for_of : ℕ → List Token → Option (Header × ℕ)
for_of limit ts = also (name_at ts) (λ x. also (after_in x.1) (λ us. made (of_one (For x.0)) (span_of limit us)))

unfoldable pub kind_of : Tree → Option FaultKind
kind_of (Name n) = fault_of n
kind_of _ = None

-- these kinds, and those that the trees name
unfoldable pub kinds_behind : List FaultKind → List Tree → Option (List FaultKind)
kinds_behind ks [] = Some ks
kinds_behind ks (e ∷ es) = also (kind_of e) (λ k. kinds_behind (ks ++ (k ∷ [])) es)

abbrev pub some_kinds_by : List FaultKind → Option Caught
some_kinds_by [] = None
some_kinds_by (k ∷ ks) = Some (Kinds (k ∷ ks))

-- kinds in brackets
unfoldable pub caught_kinds_of : ℕ → List Token → Option Caught
caught_kinds_of limit ts = also (values_of limit ts) (λ x. also (kinds_behind [] x.0.0) (λ ks. also (some_kinds_by ks) (λ c. made (λ _. c) (colon_of x.1))))

unfoldable pub as_name_of : FaultKind → List Token → Option Caught
as_name_of k ts = also (name_at ts) (λ x. made (λ _. KindAs k x.0) (colon_of x.1))

abbrev pub caught_kind_by : FaultKind → List Token → Option (List Token) → Option Caught
caught_kind_by k ts (Some us) = as_name_of k us
caught_kind_by k ts None = made (λ _. Kind k) (colon_of ts)

-- behind one kind
unfoldable pub caught_kind_of : FaultKind × List Token → Option Caught
caught_kind_of x = caught_kind_by x.0 x.1 (after_as x.1)

abbrev pub caught_by : ℕ → List Token → Option (List Token) → Option (FaultKind × List Token) → Option Caught
caught_by limit ts (Some us) _ = caught_kinds_of limit us
caught_by limit ts None (Some x) = caught_kind_of x
caught_by limit ts None None = made (λ _. All) (colon_of ts)

unfoldable pub caught_of : ℕ → List Token → Option Caught
caught_of limit ts = caught_by limit ts (after_open ts) (kind_at ts)

unfoldable pub header_only : Header → List Token → Option (Header × ℕ)
header_only h ts = made (λ _. (h, 0)) (colon_of ts)

unfoldable pub except_of : ℕ → List Token → Option (Header × ℕ)
except_of limit ts = made (λ c. (Except c, 0)) (caught_of limit ts)

unfoldable pub with_of : ℕ → List Token → Option (Header × ℕ)
with_of limit ts = also (after_with ts) (λ us. made (of_one With) (test_of limit us))

-- ---- lines

abbrev pub simple : Option (Statement × ℕ) → Option (BodyLine × ℕ)
simple o = made (of_one Simple) o

abbrev pub heads : Option (Header × ℕ) → Option (BodyLine × ℕ)
heads o = made (of_one Heads) o

unfoldable pub plain_line_of : ℕ → List Token → Option (BodyLine × ℕ)
plain_line_of limit ts = simple (plain_of limit ts)

abbrev pub if_of : ℕ → List Token → Option (Header × ℕ)
if_of limit ts = made (of_one If) (test_of limit ts)

abbrev pub elif_of : ℕ → List Token → Option (Header × ℕ)
elif_of limit ts = made (of_one Elif) (test_of limit ts)

abbrev pub while_of : ℕ → List Token → Option (Header × ℕ)
while_of limit ts = made (of_one While) (test_of limit ts)

-- a line of which the first word is k; the tokens behind it are us, and all are ts
abbrev pub worded_of : ℕ → Keyword → List Token → List Token → Option (BodyLine × ℕ)
worded_of limit keyword.Pass us ts = simple (only Pass us)
worded_of limit keyword.Break us ts = simple (only Break us)
worded_of limit keyword.Continue us ts = simple (only Continue us)
worded_of limit keyword.Return us ts = simple (return_of limit us)
worded_of limit keyword.Raise us ts = simple (raise_of limit us)
worded_of limit keyword.Assert us ts = simple (assert_of limit us)
worded_of limit keyword.Await us ts = simple (await_of limit us)
worded_of limit keyword.If us ts = heads (if_of limit us)
worded_of limit keyword.Elif us ts = heads (elif_of limit us)
worded_of limit keyword.Else us ts = heads (header_only Else us)
worded_of limit keyword.While us ts = heads (while_of limit us)
worded_of limit keyword.For us ts = heads (for_of limit us)
worded_of limit keyword.Try us ts = heads (header_only Try us)
worded_of limit keyword.Except us ts = heads (except_of limit us)
worded_of limit keyword.Async us ts = heads (with_of limit us)
worded_of limit _ us ts = plain_line_of limit ts

abbrev pub body_by : ℕ → List Token → Option (Keyword × List Token) → Option (BodyLine × ℕ)
body_by limit ts (Some x) = worded_of limit x.0 x.1 ts
body_by limit ts None = plain_line_of limit ts

-- a line of a function's body
unfoldable pub body_of : ℕ → List Token → Option (BodyLine × ℕ)
body_of limit ts = body_by limit ts (keyword_at ts)
