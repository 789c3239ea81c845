-- A means of proof: started calls, what is awaited, and right sides as texts, for the test program of Python's texts.
use Rattle.std.specs.Prelude.{ℕ, List, [], ◌∷◌, ◌++◌, Option, None, Some, codes}
use Rattle.std.specs.List.{concat, flat_map}
use Rattle.py_syntax.specs.ExpressionTrees.{Tree}
use Rattle.py_syntax.specs.StatementTrees.{Argument, StartedCall, FunctionCall, ClockStart, QueuePut, QueueGet, Timed, TimedValue, TimedCall, Awaited, AwaitedValue, AwaitedCall, AwaitedStart, WithTimeout, RightSide, RightValue, RightAwait, RightStart, NewEvent, NewLock, RandomInt, NewQueue, GetNow, WriteAction, Force, Freeze, Release}
use Rattle.python_tests.specs.Trees.TreeText.{pair_text, tree_text}

-- an expression behind a space
abbrev pub spaced_text : Tree → List ℕ
spaced_text e = codes " " ++ tree_text e

-- one behind a space, if there is one
abbrev pub optional_text : Option Tree → List ℕ
optional_text None = []
optional_text (Some e) = spaced_text e

-- the name by which an argument is given, and `=`
abbrev pub given_text : Option (List ℕ) → List ℕ
given_text None = []
given_text (Some name) = name ++ codes "="

-- an argument behind a space
abbrev pub argument_text : Argument → List ℕ
argument_text x = concat (codes " " ∷ given_text x.name ∷ tree_text x.value ∷ [])

-- a call of what is written so
abbrev pub call_text : List ℕ → List Argument → List ℕ
call_text called xs = concat (codes "(call " ∷ called ∷ flat_map argument_text xs ∷ codes ")" ∷ [])

-- a call of a member with these arguments, each behind a space
abbrev pub member_call : List ℕ → List ℕ → List ℕ → List ℕ
member_call base name arguments = concat (codes "(call " ∷ pair_text (codes ".") base name ∷ arguments ∷ codes ")" ∷ [])

abbrev pub started_text : StartedCall → List ℕ
started_text (FunctionCall name xs) = call_text name xs
started_text (ClockStart e xs) = call_text (pair_text (codes ".") (tree_text e) (codes "start")) xs
started_text (QueuePut e x) = member_call (tree_text e) (codes "put") (spaced_text x)
started_text (QueueGet e) = member_call (tree_text e) (codes "get") []

-- a call of a member of `cocotb`, which starts the call
abbrev pub start_text : List ℕ → StartedCall → List ℕ
start_text name f = concat (codes "(call " ∷ pair_text (codes ".") (codes "cocotb") name ∷ codes " " ∷ started_text f ∷ codes ")" ∷ [])

abbrev pub timed_text : Timed → List ℕ
timed_text (TimedValue e) = tree_text e
timed_text (TimedCall f) = started_text f

-- what stands behind `await`
abbrev pub awaited_text : Awaited → List ℕ
awaited_text (AwaitedValue e) = tree_text e
awaited_text (AwaitedCall f) = started_text f
awaited_text (AwaitedStart f) = start_text (codes "start") f
awaited_text (WithTimeout x e u) = concat (codes "(call with_timeout " ∷ timed_text x ∷ spaced_text e ∷ optional_text u ∷ codes ")" ∷ [])

abbrev pub await_text : Awaited → List ℕ
await_text a = concat (codes "(await " ∷ awaited_text a ∷ codes ")" ∷ [])

abbrev pub right_text : RightSide → List ℕ
right_text (RightValue e) = tree_text e
right_text (RightAwait a) = await_text a
right_text (RightStart f) = start_text (codes "start_soon") f
right_text NewEvent = codes "(call Event)"
right_text NewLock = codes "(call Lock)"
right_text (RandomInt a b) = concat (codes "(call (. random randint)" ∷ spaced_text a ∷ spaced_text b ∷ codes ")" ∷ [])
right_text (NewQueue e) = concat (codes "(call Queue" ∷ optional_text e ∷ codes ")" ∷ [])
right_text (GetNow e) = member_call (tree_text e) (codes "get_nowait") []

-- a write that is no value
abbrev pub write_action_text : WriteAction → List ℕ
write_action_text (Force e) = concat (codes "(call Force" ∷ spaced_text e ∷ codes ")" ∷ [])
write_action_text Freeze = codes "(call Freeze)"
write_action_text Release = codes "(call Release)"
