-- A means of proof: files in which each call and each test names a function of the file, with a value for each of its parameters, for the
-- proofs of the runner.
use Rattle.std.specs.Prelude.{ℕ, suc, ◌+◌, ◌==◌, nat_lt, nat_le, Bool, false, ◌&&◌, List, [], ◌∷◌, ◌++◌, length, Some, slice_get}
use Rattle.std.specs.List.{list_all, filter, range_with_len}
use Rattle.std.specs.Option.{option_map_or}
use Rattle.test_meaning.specs.Body.BodyTrees.{Operand, Call, FunctionCall, ClockStart, QueuePut, QueueGet, Timed, TimedValue, TimedCall, Awaited, AwaitedValue, AwaitedCall, AwaitedStart, WithTimeout, AwaitedRoom, AwaitedItem, RightSide, RightAwait, RightStart, Statement, Return, Assign, AssignValue, Await, StartSoon, Item, Simple, If, While, For, Try, With, Block, NoItem, Then, Handlers, NoHandler, Catch, Function, Case, TestFile}

-- ---- the calls of a body

abbrev pub timed_calls : Timed → List Call
timed_calls (TimedValue e) = []
timed_calls (TimedCall c) = c ∷ []

abbrev pub awaited_calls : Awaited → List Call
awaited_calls (AwaitedValue e) = []
awaited_calls (AwaitedCall c) = c ∷ []
awaited_calls (AwaitedStart c) = c ∷ []
awaited_calls (WithTimeout x e u) = timed_calls x
awaited_calls (AwaitedRoom e) = []
awaited_calls (AwaitedItem e) = []

abbrev pub right_calls : RightSide → List Call
right_calls (RightAwait a) = awaited_calls a
right_calls (RightStart c) = c ∷ []
right_calls _ = []

abbrev pub statement_calls : Statement → List Call
statement_calls (Return (Some s)) = right_calls s
statement_calls (Assign n s) = right_calls s
statement_calls (AssignValue e s) = right_calls s
statement_calls (Await a) = awaited_calls a
statement_calls (StartSoon c) = c ∷ []
statement_calls _ = []

abbrev mutual
  pub block_calls : Block → List Call
  block_calls NoItem = []
  block_calls (Then x xs) = item_calls x ++ block_calls xs

  pub item_calls : Item → List Call
  item_calls (Simple s) = statement_calls s
  item_calls (If e b other) = block_calls b ++ block_calls other
  item_calls (While e b) = block_calls b
  item_calls (For n span b) = block_calls b
  item_calls (Try b hs) = block_calls b ++ handler_calls hs
  item_calls (With e b) = block_calls b

  pub handler_calls : Handlers → List Call
  handler_calls NoHandler = []
  handler_calls (Catch c b hs) = block_calls b ++ handler_calls hs

-- ---- soundness

-- how many operands are for the parameter of this number
abbrev pub operands_for : List Operand → ℕ → ℕ
operands_for os i = length (filter (λ o. o.parameter == i) os)

-- each operand is for one of so many parameters
abbrev pub are_for : ℕ → List Operand → Bool
are_for n os = list_all (λ o. nat_lt o.parameter n) os

-- each of so many parameters has exactly one operand
abbrev pub fill : ℕ → List Operand → Bool
fill n os = are_for n os && list_all (λ i. operands_for os i == 1) (range_with_len 0 n)

-- each of so many parameters has at most one operand
abbrev pub fill_some : ℕ → List Operand → Bool
fill_some n os = are_for n os && list_all (λ i. nat_le (operands_for os i) 1) (range_with_len 0 n)

abbrev pub is_sound_call : List Function → Call → Bool
is_sound_call fs (FunctionCall n os) = option_map_or (λ (f : Function). fill (length f.parameters) os) (slice_get fs n) false
is_sound_call fs (ClockStart n e os) = (n + 3 == length fs) && fill_some 2 os
is_sound_call fs (QueuePut n e x) = n + 2 == length fs
is_sound_call fs (QueueGet n e) = n + 1 == length fs

abbrev pub is_sound_function : List Function → Function → Bool
is_sound_function fs f = list_all (is_sound_call fs) (block_calls f.body)

-- the function has one parameter more than the test has values
abbrev pub is_sound_case : List Function → Case → Bool
is_sound_case fs c = option_map_or (λ (f : Function). length f.parameters == suc (length c.arguments)) (slice_get fs c.function) false

-- how many tests a file may have
abbrev pub most_cases : ℕ
most_cases = 65536

abbrev pub is_sound : TestFile → Bool
is_sound f =
    list_all (is_sound_function f.functions) f.functions && list_all (is_sound_case f.functions) f.cases && nat_le (length f.cases) most_cases
