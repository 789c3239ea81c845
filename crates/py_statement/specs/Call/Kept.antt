-- A means of proof: what is kept of a form while a line is read, and the greatest height of its expressions, for the proofs of Python's
-- parser. In the place of an expression over the limit on heights another stands, and its height counts as one above the limit.
use Rattle.std.specs.Prelude.{ℕ, ◌+◌, ◌-◌, max, nat_le, List, [], ◌∷◌, Option, Some, None, if◌then◌else◌}
use Rattle.py_syntax.specs.ExpressionTrees.{Tree, height}
use Rattle.py_syntax.specs.StatementTrees.{Argument, StartedCall, FunctionCall, ClockStart, QueuePut, QueueGet, Timed, TimedValue, TimedCall, Awaited, AwaitedValue, AwaitedCall, AwaitedStart, WithTimeout, RightSide, RightValue, RightAwait, RightStart, NewEvent, NewLock, RandomInt, NewQueue, GetNow, WriteAction, Force, Freeze, Release}
use Rattle.py_expression.specs.Shown.{nothing}

-- an expression of this height less so many attributes, which are taken off it
unfoldable pub lowered : ℕ → ℕ → Tree → ℕ → Tree × ℕ
lowered limit n e h = if nat_le h (limit + n) then (e, h - n) else (nothing, limit + 1)

abbrev pub kept : ℕ → Tree → Tree × ℕ
kept limit e = lowered limit 0 e (height e)

-- made of one, or of two

abbrev pub of_one : {A B : Type 0} → (A → B) → A × ℕ → B × ℕ
of_one make x = (make x.0, x.1)

abbrev pub of_two : {A B C : Type 0} → (A → B → C) → A × ℕ → B × ℕ → C × ℕ
of_two make x y = (make x.0 y.0, max x.1 y.1)

abbrev pub kept_optional : {A : Type 0} → (A → A × ℕ) → Option A → Option A × ℕ
kept_optional keep None = (None, 0)
kept_optional keep (Some x) = of_one (λ y. Some y) (keep x)

unfoldable pub kept_list : {A : Type 0} → (A → A × ℕ) → List A → List A × ℕ
kept_list keep [] = ([], 0)
kept_list keep (x ∷ xs) = of_two (λ y ys. y ∷ ys) (keep x) (kept_list keep xs)

abbrev pub given_as : Option (List ℕ) → Tree → Argument
given_as name e = record { name = name; value = e }

abbrev pub kept_argument : ℕ → Argument → Argument × ℕ
kept_argument limit x = of_one (given_as x.name) (kept limit x.value)

abbrev pub kept_arguments : ℕ → List Argument → List Argument × ℕ
kept_arguments limit xs = kept_list (kept_argument limit) xs

abbrev pub kept_started : ℕ → StartedCall → StartedCall × ℕ
kept_started limit (FunctionCall n xs) = of_one (FunctionCall n) (kept_arguments limit xs)
kept_started limit (ClockStart e xs) = of_two ClockStart (kept limit e) (kept_arguments limit xs)
kept_started limit (QueuePut e x) = of_two QueuePut (kept limit e) (kept limit x)
kept_started limit (QueueGet e) = of_one QueueGet (kept limit e)

abbrev pub kept_timed : ℕ → Timed → Timed × ℕ
kept_timed limit (TimedValue e) = of_one TimedValue (kept limit e)
kept_timed limit (TimedCall f) = of_one TimedCall (kept_started limit f)

abbrev pub timeout_of : Timed → Tree × Option Tree → Awaited
timeout_of x t = WithTimeout x t.0 t.1

abbrev pub kept_times : ℕ → Tree → Option Tree → (Tree × Option Tree) × ℕ
kept_times limit e u = of_two (λ t v. (t, v)) (kept limit e) (kept_optional (kept limit) u)

abbrev pub kept_awaited : ℕ → Awaited → Awaited × ℕ
kept_awaited limit (AwaitedValue e) = of_one AwaitedValue (kept limit e)
kept_awaited limit (AwaitedCall f) = of_one AwaitedCall (kept_started limit f)
kept_awaited limit (AwaitedStart f) = of_one AwaitedStart (kept_started limit f)
kept_awaited limit (WithTimeout x e u) = of_two timeout_of (kept_timed limit x) (kept_times limit e u)

abbrev pub kept_right : ℕ → RightSide → RightSide × ℕ
kept_right limit (RightValue e) = of_one RightValue (kept limit e)
kept_right limit (RightAwait a) = of_one RightAwait (kept_awaited limit a)
kept_right limit (RightStart f) = of_one RightStart (kept_started limit f)
kept_right limit NewEvent = (NewEvent, 0)
kept_right limit NewLock = (NewLock, 0)
kept_right limit (RandomInt a b) = of_two RandomInt (kept limit a) (kept limit b)
kept_right limit (NewQueue e) = of_one NewQueue (kept_optional (kept limit) e)
kept_right limit (GetNow e) = of_one GetNow (kept limit e)

abbrev pub kept_write_action : ℕ → WriteAction → WriteAction × ℕ
kept_write_action limit (Force e) = of_one Force (kept limit e)
kept_write_action limit Freeze = (Freeze, 0)
kept_write_action limit Release = (Release, 0)
