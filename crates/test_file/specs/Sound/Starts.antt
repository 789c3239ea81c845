-- A means of proof: the calls that are started in a module, for the proofs of the check of a tests file.
use Rattle.std.specs.Prelude.{Bool, true, List, [], ◌∷◌, ◌++◌, Some}
use Rattle.std.specs.List.{flat_map, list_all}
use Rattle.py_syntax.specs.BlockTrees.{BlockItem, DocstringAt, StatementAt, ClauseAt, Block, NoItem, Then, ModuleItem, FunctionAt}
use Rattle.py_syntax.specs.CallForms.{starts_clock}
use Rattle.py_syntax.specs.StatementTrees.{StartedCall, FunctionCall, ClockStart, QueuePut, QueueGet, Timed, TimedValue, TimedCall, Awaited, AwaitedValue, AwaitedCall, AwaitedStart, WithTimeout, RightSide, RightAwait, RightStart, Statement, Return, Assign, AssignValue, Await, StartSoon}

abbrev pub timed_starts : Timed → List StartedCall
timed_starts (TimedValue e) = []
timed_starts (TimedCall c) = c ∷ []

abbrev pub awaited_starts : Awaited → List StartedCall
awaited_starts (AwaitedValue e) = []
awaited_starts (AwaitedCall c) = c ∷ []
awaited_starts (AwaitedStart c) = c ∷ []
awaited_starts (WithTimeout x e u) = timed_starts x

abbrev pub right_starts : RightSide → List StartedCall
right_starts (RightAwait a) = awaited_starts a
right_starts (RightStart c) = c ∷ []
right_starts _ = []

abbrev pub statement_starts : Statement → List StartedCall
statement_starts (Return (Some r)) = right_starts r
statement_starts (Assign n r) = right_starts r
statement_starts (AssignValue e r) = right_starts r
statement_starts (Await a) = awaited_starts a
statement_starts (StartSoon c) = c ∷ []
statement_starts _ = []

abbrev mutual
  pub block_starts : Block → List StartedCall
  block_starts NoItem = []
  block_starts (Then x xs) = item_starts x ++ block_starts xs

  pub item_starts : BlockItem → List StartedCall
  item_starts (DocstringAt l) = []
  item_starts (StatementAt l s) = statement_starts s
  item_starts (ClauseAt l h b) = block_starts b

abbrev pub starts_at : ModuleItem → List StartedCall
starts_at (FunctionAt l f ps b) = block_starts b
starts_at _ = []

-- a clock's start has such arguments as a text may give it: `cycles`, and then `start_high`
abbrev pub is_right_start : StartedCall → Bool
is_right_start (FunctionCall n xs) = true
is_right_start (ClockStart e xs) = starts_clock xs
is_right_start (QueuePut e x) = true
is_right_start (QueueGet e) = true

abbrev pub are_right_starts : List ModuleItem → Bool
are_right_starts xs = list_all is_right_start (flat_map starts_at xs)
