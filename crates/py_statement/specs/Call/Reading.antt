-- A means of proof: how started calls, what is awaited, right sides and writes that are no values are read, from left to right, as functions
-- on lists of tokens, for the proofs of Python's parser. Where they give None no such form stands there.
use Rattle.std.specs.Prelude.{ℕ, zero, suc, max, Bool, true, ◌&&◌, List, [], ◌∷◌, ◌++◌, map, length, Option, Some, None, codes, if◌then◌else◌}
use Rattle.std.specs.Str.{bytes_eq}
use Rattle.py_syntax.specs.ExpressionTrees.{Tree}
use Rattle.py_syntax.specs.StatementTrees.{Argument, StartedCall, FunctionCall, ClockStart, QueuePut, QueueGet, Timed, TimedValue, TimedCall, Awaited, AwaitedValue, AwaitedCall, AwaitedStart, RightSide, RightValue, RightAwait, RightStart, NewEvent, NewLock, RandomInt, NewQueue, GetNow, WriteAction, Force, Freeze, Release}
use Rattle.py_syntax.specs.CallForms.{is_placed, in_order, starts_clock}
use Rattle.py_syntax.specs.declared.token.Token.{Token}
use Rattle.py_expression.specs.Shown.{Shown}
use Rattle.py_expression.specs.Attributes.{split_of}
use Rattle.py_expression.specs.Phrase.Marks.{end_of, after_open, after_close, after_comma, after_last, after_name, named_at}
use Rattle.py_expression.specs.Reading.{expression_of, primary_of}
use Rattle.py_statement.specs.Call.Kept.{lowered, of_one, of_two, given_as, timeout_of}
use Rattle.py_statement.specs.Call.Chosen.{also, or_else, made, ended, closed}
use Rattle.py_statement.specs.Call.Words.{call_at, after_call, after_member, after_text, after_await, is_end}

-- Expressions.

abbrev pub limited : ℕ → Shown × List Token → (Tree × ℕ) × List Token
limited limit x = (lowered limit 0 x.0.tree x.0.height, x.1)

-- an expression, and the tokens after it
unfoldable pub value_of : ℕ → List Token → Option ((Tree × ℕ) × List Token)
value_of limit ts = made (limited limit) (expression_of limit ts)

-- an expression that reaches to the end
unfoldable pub whole_value_of : ℕ → List Token → Option (Tree × ℕ)
whole_value_of limit ts = also (value_of limit ts) (λ x. ended x.0 x.1)

-- a primary that reaches to the end
unfoldable pub whole_primary_of : ℕ → List Token → Option (Tree × ℕ)
whole_primary_of limit ts = also (made (limited limit) (primary_of limit ts)) (λ x. ended x.0 x.1)

-- Arguments.

abbrev pub begin_by : List Token → Option (List ℕ × List Token) → Option (List ℕ) × List Token
begin_by ts None = (None, ts)
begin_by ts (Some x) = (Some x.0, x.1)

-- the name by which an argument is given, and where its value begins
unfoldable pub begin_of : List Token → Option (List ℕ) × List Token
begin_of ts = begin_by ts (named_at ts)

unfoldable pub argument_of : ℕ → List Token → Option ((Argument × ℕ) × List Token)
argument_of limit ts = made (λ x. (of_one (given_as (begin_of ts).0) x.0, x.1)) (value_of limit (begin_of ts).1)

-- one more argument
unfoldable pub joined : List Argument × ℕ → Argument × ℕ → List Argument × ℕ
joined xs x = (xs.0 ++ (x.0 ∷ []), max xs.1 x.1)

-- behind an argument: before another, or behind the last
pub data Step : Type 0 where
  going : List Argument × ℕ → List Token → Step
  done : List Argument × ℕ → List Token → Step

abbrev pub behind_by : List Argument × ℕ → List Token → Option (List Token) → Option Step
behind_by xs ts (Some us) = Some (done xs us)
behind_by xs ts None = made (λ us. going xs us) (after_comma ts)

unfoldable pub behind_of : List Argument × ℕ → List Token → Option Step
behind_of xs ts = behind_by xs ts (after_last ts)

unfoldable pub step_of : ℕ → List Argument × ℕ → List Token → Option Step
step_of limit xs ts = also (argument_of limit ts) (λ x. behind_of (joined xs x.0) x.1)

abbrev pub more_by : (List Argument × ℕ → List Token → Option ((List Argument × ℕ) × List Token)) → Option Step → Option ((List Argument × ℕ) × List Token)
more_by more None = None
more_by more (Some (going xs ts)) = more xs ts
more_by more (Some (done xs ts)) = Some (xs, ts)

-- so many arguments at most
unfoldable pub more_of : ℕ → ℕ → List Argument × ℕ → List Token → Option ((List Argument × ℕ) × List Token)
more_of limit zero xs ts = None
more_of limit (suc n) xs ts = more_by (more_of limit n) (step_of limit xs ts)

-- one argument at least
unfoldable pub some_arguments_of : ℕ → List Token → Option ((List Argument × ℕ) × List Token)
some_arguments_of limit ts = more_of limit (length ts) ([], 0) ts

abbrev pub arguments_by : ℕ → List Token → Option (List Token) → Option ((List Argument × ℕ) × List Token)
arguments_by limit ts (Some us) = Some (([], 0), us)
arguments_by limit ts None = some_arguments_of limit ts

-- the arguments behind an opening bracket, and the tokens after the closing one
unfoldable pub arguments_of : ℕ → List Token → Option ((List Argument × ℕ) × List Token)
arguments_of limit ts = arguments_by limit ts (after_close ts)

-- whether all are given by their places
unfoldable pub are_placed : List Argument → Bool
are_placed [] = true
are_placed (x ∷ xs) = is_placed x.name && are_placed xs

abbrev pub values : List Argument → List Tree
values xs = map (λ (x : Argument). x.value) xs

abbrev pub only_placed : (List Argument × ℕ) × List Token → Option ((List Tree × ℕ) × List Token)
only_placed x = if are_placed x.0.0 then Some ((values x.0.0, x.0.1), x.1) else None

-- the values of such arguments
unfoldable pub values_of : ℕ → List Token → Option ((List Tree × ℕ) × List Token)
values_of limit ts = also (arguments_of limit ts) only_placed

abbrev pub one_of : {A : Type 0} → List A → Option A
one_of (e ∷ []) = Some e
one_of _ = None

-- the value of the only argument, which is given by its place
unfoldable pub only_value_of : ℕ → List Token → Option ((Tree × ℕ) × List Token)
only_value_of limit ts = also (values_of limit ts) (λ x. made (λ e. ((e, x.0.1), x.1)) (one_of x.0.0))

-- Calls of methods.

abbrev pub method_from : ℕ → Shown × List Token → Option ((Tree × ℕ) × (List ℕ × List Token))
method_from limit x = also (split_of x.0.tree) (λ y. made (λ us. (lowered limit 1 y.0 x.0.height, (y.1, us))) (after_open x.1))

-- the method that is called at the front: its object, its name, and the tokens behind the bracket
unfoldable pub method_at : ℕ → List Token → Option ((Tree × ℕ) × (List ℕ × List Token))
method_at limit ts = also (primary_of limit ts) (method_from limit)

-- Calls that are started.

unfoldable pub function_call_by : List ℕ → (List Argument × ℕ) × List Token → Option ((StartedCall × ℕ) × List Token)
function_call_by n x = if in_order x.0.0 && is_end x.1 then Some (of_one (FunctionCall n) x.0, x.1) else None

unfoldable pub function_call_of : ℕ → List Token → Option ((StartedCall × ℕ) × List Token)
function_call_of limit ts = also (call_at ts) (λ c. also (arguments_of limit c.1) (function_call_by c.0))

unfoldable pub clock_start_by : Tree × ℕ → (List Argument × ℕ) × List Token → Option ((StartedCall × ℕ) × List Token)
clock_start_by e x = if starts_clock x.0.0 then Some (of_two ClockStart e x.0, x.1) else None

-- behind `clock.start(`
unfoldable pub clock_start_of : ℕ → Tree × ℕ → List Token → Option ((StartedCall × ℕ) × List Token)
clock_start_of limit e ts = also (arguments_of limit ts) (clock_start_by e)

-- behind `queue.put(`
unfoldable pub queue_put_of : ℕ → Tree × ℕ → List Token → Option ((StartedCall × ℕ) × List Token)
queue_put_of limit e ts = made (λ x. (of_two QueuePut e x.0, x.1)) (only_value_of limit ts)

-- behind `queue.get(`
unfoldable pub queue_get_of : Tree × ℕ → List Token → Option ((StartedCall × ℕ) × List Token)
queue_get_of e ts = made (λ us. (of_one QueueGet e, us)) (after_close ts)

-- behind the bracket of a method of this name
unfoldable pub method_start_by : ℕ → Tree × ℕ → List ℕ → List Token → Option ((StartedCall × ℕ) × List Token)
method_start_by limit e name ts =
    if bytes_eq name (codes "start") then clock_start_of limit e ts
    else (if bytes_eq name (codes "put") then queue_put_of limit e ts else (if bytes_eq name (codes "get") then queue_get_of e ts else None))

unfoldable pub method_start_of : ℕ → List Token → Option ((StartedCall × ℕ) × List Token)
method_start_of limit ts = also (method_at limit ts) (λ m. method_start_by limit m.0 m.1.0 m.1.1)

-- a started call, and the tokens after it
unfoldable pub started_of : ℕ → List Token → Option ((StartedCall × ℕ) × List Token)
started_of limit ts = or_else (function_call_of limit ts) (method_start_of limit ts)

-- What is awaited.

-- behind `cocotb.start(` or `cocotb.start_soon(`
unfoldable pub closed_start_of : ℕ → List Token → Option (StartedCall × ℕ)
closed_start_of limit ts = also (started_of limit ts) (λ x. closed x.0 x.1)

unfoldable pub awaited_start_of : ℕ → List Token → Option (Awaited × ℕ)
awaited_start_of limit ts = made (of_one AwaitedStart) (also (after_member (codes "cocotb") (codes "start") ts) (closed_start_of limit))

unfoldable pub before_comma : {A : Type 0} → A × List Token → Option (A × List Token)
before_comma x = made (λ us. (x.0, us)) (after_comma x.1)

abbrev pub as_timed_value : (Tree × ℕ) × List Token → (Timed × ℕ) × List Token
as_timed_value x = (of_one TimedValue x.0, x.1)

abbrev pub as_timed_call : (StartedCall × ℕ) × List Token → (Timed × ℕ) × List Token
as_timed_call x = (of_one TimedCall x.0, x.1)

unfoldable pub timed_value_of : ℕ → List Token → Option ((Timed × ℕ) × List Token)
timed_value_of limit ts = made as_timed_value (also (value_of limit ts) before_comma)

unfoldable pub timed_call_of : ℕ → List Token → Option ((Timed × ℕ) × List Token)
timed_call_of limit ts = made as_timed_call (also (started_of limit ts) before_comma)

-- the first argument of `with_timeout`, and what stands behind its comma
unfoldable pub timed_of : ℕ → List Token → Option ((Timed × ℕ) × List Token)
timed_of limit ts = or_else (timed_value_of limit ts) (timed_call_of limit ts)

-- the unit and the end of the line
abbrev pub unit_by : ℕ → List Token → Option (List Token) → Option (Option Tree × ℕ)
unit_by limit ts None = closed (None, 0) ts
unit_by limit ts (Some us) =
    also (value_of limit (after_name (codes "timeout_unit") us)) (λ x. closed (of_one (λ e. Some e) x.0) x.1)

abbrev pub argument_comma : List Token → Option (List Token) → Option (List Token)
argument_comma ts (Some us) = None
argument_comma ts None = after_comma ts

-- behind a comma that an argument follows
unfoldable pub after_argument_comma : List Token → Option (List Token)
after_argument_comma ts = argument_comma ts (after_last ts)

unfoldable pub unit_of : ℕ → List Token → Option (Option Tree × ℕ)
unit_of limit ts = unit_by limit ts (after_argument_comma ts)

unfoldable pub times_of : ℕ → List Token → Option ((Tree × Option Tree) × ℕ)
times_of limit ts = also (value_of limit ts) (λ x. made (of_two (λ t v. (t, v)) x.0) (unit_of limit x.1))

unfoldable pub with_timeout_of : ℕ → List Token → Option (Awaited × ℕ)
with_timeout_of limit ts = also (after_call (codes "with_timeout") ts)
    (λ us. also (timed_of limit us) (λ x. made (of_two timeout_of x.0) (times_of limit x.1)))

unfoldable pub awaited_call_of : ℕ → List Token → Option (Awaited × ℕ)
awaited_call_of limit ts = made (of_one AwaitedCall) (also (started_of limit ts) (λ x. ended x.0 x.1))

unfoldable pub awaited_value_of : ℕ → List Token → Option (Awaited × ℕ)
awaited_value_of limit ts = made (of_one AwaitedValue) (whole_primary_of limit ts)

unfoldable pub timeout_or_call_of : ℕ → List Token → Option (Awaited × ℕ)
timeout_or_call_of limit ts = or_else (with_timeout_of limit ts) (awaited_call_of limit ts)

unfoldable pub calls_of : ℕ → List Token → Option (Awaited × ℕ)
calls_of limit ts = or_else (awaited_start_of limit ts) (timeout_or_call_of limit ts)

-- A call that fits a started call and another form has the other form.
unfoldable pub awaited_of : ℕ → List Token → Option (Awaited × ℕ)
awaited_of limit ts = or_else (awaited_value_of limit ts) (calls_of limit ts)

-- Right sides.

abbrev pub new_by : List Token → Option (List Token) → Option (List Token)
new_by ts (Some us) = after_last us
new_by ts None = after_close ts

-- behind the bracket that closes `Event(` or `Lock(`
unfoldable pub after_new : List Token → Option (List Token)
after_new ts = new_by ts (after_text ts)

unfoldable pub new_of : RightSide → List Token → Option (RightSide × ℕ)
new_of s ts = made (λ _. (s, 0)) (also (after_new ts) end_of)

abbrev pub two_of : {A : Type 0} → List A → Option (A × A)
two_of (a ∷ b ∷ []) = Some (a, b)
two_of _ = None

-- behind `random.randint(`
unfoldable pub random_int_of : ℕ → List Token → Option (RightSide × ℕ)
random_int_of limit ts = also (values_of limit ts) (λ x. also (two_of x.0.0) (λ e. ended (RandomInt e.0 e.1, x.0.1) x.1))

unfoldable pub start_soon_of : ℕ → List Token → Option (RightSide × ℕ)
start_soon_of limit ts = made (of_one RightStart) (closed_start_of limit ts)

unfoldable pub right_value_of : ℕ → List Token → Option (RightSide × ℕ)
right_value_of limit ts = made (of_one RightValue) (whole_value_of limit ts)

abbrev pub bound_by : ℕ → List Token → Option (List Token) → Option (Option Tree × ℕ)
bound_by limit ts (Some us) = ended (None, 0) us
bound_by limit ts None = also (value_of limit (after_name (codes "maxsize") ts)) (λ x. closed (of_one (λ e. Some e) x.0) x.1)

-- the bound of a queue, and the end of the line
unfoldable pub bound_of : ℕ → List Token → Option (Option Tree × ℕ)
bound_of limit ts = bound_by limit ts (after_close ts)

-- behind `Queue(`
unfoldable pub queue_of : ℕ → List Token → Option (RightSide × ℕ)
queue_of limit ts = made (of_one NewQueue) (bound_of limit ts)

-- behind the bracket of a method of this name
unfoldable pub get_now_by : Tree × ℕ → List ℕ → List Token → Option (RightSide × ℕ)
get_now_by e name ts = if bytes_eq name (codes "get_nowait") then also (after_close ts) (λ us. ended (of_one GetNow e) us) else None

unfoldable pub get_now_of : ℕ → List Token → Option (RightSide × ℕ)
get_now_of limit ts = also (method_at limit ts) (λ m. get_now_by m.0 m.1.0 m.1.1)

unfoldable pub value_or_get_of : ℕ → List Token → Option (RightSide × ℕ)
value_or_get_of limit ts = or_else (right_value_of limit ts) (get_now_of limit ts)

-- behind the bracket of a call whose name begins a new object
abbrev pub new_object_by : ℕ → List Token → Option (List Token) → Option (List Token) → Option (List Token) → Option (RightSide × ℕ)
new_object_by limit ts (Some us) _ _ = new_of NewEvent us
new_object_by limit ts None (Some us) _ = new_of NewLock us
new_object_by limit ts None None (Some us) = queue_of limit us
new_object_by limit ts None None None = value_or_get_of limit ts

-- a new object, a value, or an item of a queue
unfoldable pub object_or_value_of : ℕ → List Token → Option (RightSide × ℕ)
object_or_value_of limit ts = new_object_by limit ts (after_call (codes "Event") ts) (after_call (codes "Lock") ts) (after_call (codes "Queue") ts)

abbrev pub right_by : ℕ → List Token → Option (List Token) → Option (List Token) → Option (RightSide × ℕ)
right_by limit ts (Some us) _ = start_soon_of limit us
right_by limit ts None (Some us) = random_int_of limit us
right_by limit ts None None = object_or_value_of limit ts

unfoldable pub call_or_value_of : ℕ → List Token → Option (RightSide × ℕ)
call_or_value_of limit ts =
    right_by limit ts (after_member (codes "cocotb") (codes "start_soon") ts) (after_member (codes "random") (codes "randint") ts)

abbrev pub await_by : ℕ → List Token → Option (List Token) → Option (RightSide × ℕ)
await_by limit ts (Some us) = made (of_one RightAwait) (awaited_of limit us)
await_by limit ts None = call_or_value_of limit ts

-- a right side that reaches to the end
unfoldable pub right_of : ℕ → List Token → Option (RightSide × ℕ)
right_of limit ts = await_by limit ts (after_await ts)

-- Writes that are no values.

abbrev pub as_force : (Tree × ℕ) × List Token → (WriteAction × ℕ) × List Token
as_force x = (of_one Force x.0, x.1)

-- a word with empty brackets
abbrev pub bare : WriteAction → List Token → Option ((WriteAction × ℕ) × List Token)
bare w ts = made (λ us. ((w, 0), us)) (after_close ts)

abbrev pub write_action_by : ℕ → Option (List Token) → Option (List Token) → Option (List Token) → Option ((WriteAction × ℕ) × List Token)
write_action_by limit (Some us) _ _ = made as_force (only_value_of limit us)
write_action_by limit None (Some us) _ = bare Freeze us
write_action_by limit None None (Some us) = bare Release us
write_action_by limit None None None = None

-- the write at the front, and the tokens after it
unfoldable pub write_action_of : ℕ → List Token → Option ((WriteAction × ℕ) × List Token)
write_action_of limit ts = write_action_by limit (after_call (codes "Force") ts) (after_call (codes "Freeze") ts) (after_call (codes "Release") ts)

-- a write that reaches to the end
unfoldable pub whole_write_action_of : ℕ → List Token → Option (WriteAction × ℕ)
whole_write_action_of limit ts = also (write_action_of limit ts) (λ x. ended x.0 x.1)

-- a write before `)` at the end
unfoldable pub closed_write_action_of : ℕ → List Token → Option (WriteAction × ℕ)
closed_write_action_of limit ts = also (write_action_of limit ts) (λ x. closed x.0 x.1)
