-- How blocks are left: by a fault, `return`, `break` or `continue`, which drop what is to do up to where they stop (the language reference, 7.6, 7.9,
-- 7.10, 8.4, and 8.9.3, "The async with statement").
use Rattle.std.specs.Prelude.{Bool, true, List, [], ◌∷◌, ◌++◌, ◌||◌, None, Some, if◌then◌else◌}
use Rattle.std.specs.List.{list_any}
use Rattle.py_syntax.specs.StatementTrees.{Caught, All, Kind, Kinds, KindAs}
use Rattle.py_syntax.specs.declared.fault_kind.FaultKind.{FaultKind}
use Rattle.py_syntax.specs.declared.fault_kind.FaultKind.TheVariants.{Exception, SimTimeoutError}
use Rattle.py_value.specs.declared.trigger.TaskNo.{TaskNo}
use Rattle.py_value.specs.declared.value.Fault.{Fault}
use Rattle.py_value.specs.declared.value.Value.TheVariants as value
use Rattle.py_value.specs.Operator.Identity.{same_kind}
use Rattle.test_meaning.specs.Body.BodyTrees.{Block, Handlers, NoHandler, Catch}
use Rattle.rig_model.specs.Task.Frame.{Todo, Do, Again, Each, Uses, Handles, Bound, Holds, Limited, Jump, Throw, Break, Continue, On, Leaves, items}
use Rattle.rig_model.specs.Task.Moves.{At, Move, Nothing, Asks, Ends, moved, go_on, leave, first_do, named}
use Rattle.rig_model.specs.declared.task.task.Turned.TheVariants as turned

-- ---- handlers (8.4)

-- `except kind`: that kind, or any where it is `Exception`
abbrev pub catches_kind : FaultKind → FaultKind → Bool
catches_kind kind k = same_kind k Exception || same_kind k kind

abbrev pub catches : Caught → FaultKind → Bool
catches All kind = true
catches (Kind k) kind = catches_kind kind k
catches (Kinds ks) kind = list_any (catches_kind kind) ks
catches (KindAs k n) kind = catches_kind kind k

-- the block of an `except` that has caught a fault; its name holds the fault for as long
abbrev pub handle : Caught → Fault → Block → At → Move
handle (KindAs k n) fault block a = go_on (named n (Some (value.Caught fault)) (first_do (items block ++ Bound n ∷ []) a))
handle _ fault block a = go_on (first_do (items block) a)

-- the first that catches the fault; where none does it goes on
abbrev pub find_handler : Handlers → Fault → At → Move
find_handler NoHandler fault a = leave (Throw fault) a
find_handler (Catch c block hs) fault a = if catches c fault.kind then handle c fault block a else find_handler hs fault a

-- ---- marks

abbrev pub at_handlers : Jump → Handlers → At → Move
at_handlers (Throw fault) handlers a = find_handler handlers fault a
at_handlers jump handlers a = leave jump a

-- a loop: `continue` stops before its next question, `break` behind the loop
abbrev pub at_loop : Jump → Todo → At → Move
at_loop Continue todo a = go_on (first_do (todo ∷ []) a)
at_loop Break todo a = go_on a
at_loop jump todo a = leave jump a

-- the task that a `with_timeout` has started is killed where SimTimeoutError comes out, and then this goes on
abbrev pub at_limit : Jump → TaskNo → At → Move
at_limit (Throw fault) task a = moved a (Leaves (Throw fault)) (if same_kind fault.kind SimTimeoutError then Asks (turned.Kill task) else Nothing)
at_limit jump task a = leave jump a

-- What is to do is dropped up to the first mark that counts, and that mark. A lock is released then, and where that is refused its fault is raised in
-- place of what went on. Behind the last mark the call ends.
abbrev pub drop_mark : Jump → List Todo → At → Move
drop_mark jump [] a = moved (record a { rest = [] }) On (Ends jump)
drop_mark jump (Do item ∷ rest) a = drop_mark jump rest a
drop_mark jump (Again e block ∷ rest) a = at_loop jump (Again e block) (record a { rest = rest })
drop_mark jump (Each n left block ∷ rest) a = at_loop jump (Each n left block) (record a { rest = rest })
drop_mark jump (Uses (Limited task) ∷ rest) a = at_limit jump task (record a { rest = rest })
drop_mark jump (Uses u ∷ rest) a = drop_mark jump rest a
drop_mark jump (Handles handlers ∷ rest) a = at_handlers jump handlers (record a { rest = rest })
drop_mark jump (Bound n ∷ rest) a = leave jump (named n None (record a { rest = rest }))
drop_mark jump (Holds l ∷ rest) a = moved (record a { rest = rest }) (Leaves jump) (Asks (turned.Release l))
